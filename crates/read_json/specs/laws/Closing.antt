-- Laws of the end of an open array or object.
--     Closing     the invariant of the walk over tokens: depth arrays and objects are open inside the one whose end is sought;   `search closing`
use Rattle.std.specs.Prelude.{◌≡◌, ◌⊎◌, None, Some, List, [], ◌∷◌, length}
use Rattle.std.proofs.Math.Path.{refl}
use Rattle.std.proofs.Common.{inl, inr, sym, ap, subst, ◌∙◌, arith, rules}
use Prim.Native.Nat.{ℕ, zero, suc, ◌+◌, ◌-◌, ◌≤◌, ◌<◌}
use Rattle.std.proofs.Math.Numerals.{add-one, sub-one}
use Rattle.json_text.specs.Tree.{Json, string, number, literal, Token, opens_array, opens_object, closes, name, scalar, end_by, end_place, elements_by, members_by, elements, members, no_elements, no_members}
use Rattle.read_json.specs.TreeAt.{tokens_at, string_at, word_at}
use Rattle.read_json.specs.laws.TreeAt.{elements_are, members_are, elements_past, members_past}
use Rattle.read_json.specs.Pieces.{Taken, PieceAt}
use Rattle.read_json.specs.laws.Pieces.{piece_is, piece_takes}
use Rattle.read_json.specs.Closing.{EndedAt}
use Rattle.read_json.specs.declared.Piece.{Piece}
use Rattle.read_json.specs.declared.PieceKind.TheVariants.{Absent, Array, Object, Close, Name, String, Number, Literal}

-- what is sought from one list of tokens, d deep, is sought from another, e deep
pub record Seeks (ts : List Token) (d : ℕ) (us : List Token) (e : ℕ) : Type 0 where
  pub place : end_place ts d ≡ end_place us e
  pub rest_elements : elements ts (suc d) ≡ elements us (suc e)
  pub rest_members : members ts (suc d) ≡ members us (suc e)

pub record Closing (s : List ℕ) (from at depth : ℕ) : Type 0 where
  pub low : from ≤ at
  pub high : at ≤ length s
  pub deep : depth ≤ at
  pub left : Seeks (tokens_at s from) 0 (tokens_at s at) depth

-- ---- by tokens

module _ (ts : List Token) where
  seeks_same : (d : ℕ) → Seeks ts d ts d
  seeks_same d = record { place = refl; rest_elements = refl; rest_members = refl }

  seeks_array : (p d : ℕ) → Seeks (opens_array p ∷ ts) d ts (d + 1)
  unfolding elements elements_by members members_by end_place end_by
  seeks_array p d = rw add-one (record { place = refl; rest_elements = refl; rest_members = refl })

  seeks_object : (p d : ℕ) → Seeks (opens_object p ∷ ts) d ts (d + 1)
  unfolding elements elements_by members members_by end_place end_by
  seeks_object p d = rw add-one (record { place = refl; rest_elements = refl; rest_members = refl })

  seeks_closes : (p d : ℕ) → (d ≡ 0 → ⊥) → Seeks (closes p ∷ ts) d ts (d - 1)
  unfolding elements elements_by members members_by end_place end_by
  seeks_closes p zero h = absurd (h refl)
  seeks_closes p (suc d) h = rw sub-one (record { place = refl; rest_elements = refl; rest_members = refl })

  seeks_name : (p : ℕ) (n : List ℕ) (d : ℕ) → Seeks (name p n ∷ ts) d ts d
  unfolding elements elements_by members members_by end_place end_by
  seeks_name p n d = record { place = refl; rest_elements = refl; rest_members = refl }

  seeks_scalar : (v : Json) (d : ℕ) → Seeks (scalar v ∷ ts) d ts d
  unfolding elements elements_by members members_by end_place end_by
  seeks_scalar v d = record { place = refl; rest_elements = refl; rest_members = refl }

  -- the bracket that is sought
  end_here : (p : ℕ) → end_place (closes p ∷ ts) 0 ≡ p
  unfolding end_place end_by
  end_here p = refl

  elements_here : (p : ℕ) → elements (closes p ∷ ts) 1 ≡ elements ts 0
  unfolding elements elements_by
  elements_here p = refl

  members_here : (p : ℕ) → members (closes p ∷ ts) 1 ≡ members ts 0
  unfolding members members_by
  members_here p = refl

none_left : (d : ℕ) → (end_place [] d ≡ 0) × (elements [] (suc d) ≡ no_elements) × (members [] (suc d) ≡ no_members)
unfolding end_place elements members
none_left d = (refl, refl, refl)

-- ---- by what was found

-- one search after another
seeks_on : {ts us vs : List Token} {d e f : ℕ} → Seeks ts d us e → Seeks us e vs f → Seeks ts d vs f
seeks_on a b = record { place = a.place ∙ b.place; rest_elements = a.rest_elements ∙ b.rest_elements; rest_members = a.rest_members ∙ b.rest_members }

pub closing_start : (s : List ℕ) (from : ℕ) → from ≤ length s → Closing s from from 0
closing_start s from h = record { low = omega arith; high = h; deep = omega arith; left = seeks_same (tokens_at s from) 0 }

module _ {s : List ℕ} {from at depth : ℕ} (c : Closing s from at depth) {r : Piece} (t : PieceAt s at r) where
  pub closing_none : r.kind ≡ Absent → EndedAt s from None
  closing_none q =
      let g : Seeks (tokens_at s from) 0 [] depth = subst (λ us. Seeks (tokens_at s from) 0 us depth) (piece_is t Absent q) c.left in
      let z = none_left depth in
      record {
        place = g.place ∙ z.0;
        behind = record {
          elements_after = g.rest_elements ∙ z.1 ∙ sym (elements_past s (length s) (omega arith));
          members_after = g.rest_members ∙ z.2 ∙ sym (members_past s (length s) (omega arith));
          onward = omega (arith, c.low, c.high);
          inside = omega arith;
        };
      }

  -- a token that leads on
  step : Taken s at r.place r.next → (d : ℕ) → d ≤ depth + 1 → Seeks (tokens_at s at) depth (tokens_at s r.next) d → Closing s from r.next d
  step k d l h = record {
    low = omega (arith, c.low, k.onward, k.some);
    high = k.inside;
    deep = omega (arith, c.deep, k.onward, k.some);
    left = seeks_on c.left h;
  }

  less : Taken s at r.place r.next → length s - r.next < length s - at
  less k = omega (arith, k.onward, k.some, k.inside)

  pub closing_opens : (r.kind ≡ Array) ⊎ (r.kind ≡ Object) → Closing s from r.next (depth + 1)
  closing_opens (inl q) = step (piece_takes t Array q) (depth + 1) (omega arith) (rw (piece_is t Array q) (seeks_array (tokens_at s r.next) r.place depth))
  closing_opens (inr q) = step (piece_takes t Object q) (depth + 1) (omega arith) (rw (piece_is t Object q) (seeks_object (tokens_at s r.next) r.place depth))

  pub closing_close : r.kind ≡ Close → (depth ≡ 0 → ⊥) → Closing s from r.next (depth - 1)
  closing_close q h = step (piece_takes t Close q) (depth - 1) (omega arith) (rw (piece_is t Close q) (seeks_closes (tokens_at s r.next) r.place depth h))

  pub closing_inner : (r.kind ≡ Name) ⊎ (r.kind ≡ String) ⊎ (r.kind ≡ Number) ⊎ (r.kind ≡ Literal) → Closing s from r.next depth
  closing_inner (inl q) = step (piece_takes t Name q) depth (omega arith) (rw (piece_is t Name q) (seeks_name (tokens_at s r.next) r.place (string_at s r.place) depth))
  closing_inner (inr (inl q)) = step (piece_takes t String q) depth (omega arith) (rw (piece_is t String q) (seeks_scalar (tokens_at s r.next) (string r.place (string_at s r.place)) depth))
  closing_inner (inr (inr (inl q))) = step (piece_takes t Number q) depth (omega arith) (rw (piece_is t Number q) (seeks_scalar (tokens_at s r.next) (number r.place (word_at s r.place r.next)) depth))
  closing_inner (inr (inr (inr q))) = step (piece_takes t Literal q) depth (omega arith) (rw (piece_is t Literal q) (seeks_scalar (tokens_at s r.next) (literal r.place (word_at s r.place r.next)) depth))

  pub closing_done : r.kind ≡ Close → depth ≡ 0 → EndedAt s from (Some (record { place = r.place; next = r.next }))
  closing_done q z =
      let k = piece_takes t Close q in
      let g : Seeks (tokens_at s from) 0 (closes r.place ∷ tokens_at s r.next) 0 =
      subst (λ us. Seeks (tokens_at s from) 0 us 0) (piece_is t Close q) (subst (Seeks (tokens_at s from) 0 (tokens_at s at)) z c.left) in record {
        place = g.place ∙ end_here (tokens_at s r.next) r.place;
        behind = record {
          elements_after = g.rest_elements ∙ elements_here (tokens_at s r.next) r.place ∙ sym (elements_are s r.next);
          members_after = g.rest_members ∙ members_here (tokens_at s r.next) r.place ∙ sym (members_are s r.next);
          onward = omega (arith, c.low, k.onward, k.some);
          inside = k.inside;
        };
      }

  pub closing_less_opens : (r.kind ≡ Array) ⊎ (r.kind ≡ Object) → length s - r.next < length s - at
  closing_less_opens (inl q) = less (piece_takes t Array q)
  closing_less_opens (inr q) = less (piece_takes t Object q)

  pub closing_less_close : r.kind ≡ Close → length s - r.next < length s - at
  closing_less_close q = less (piece_takes t Close q)

  pub closing_less_inner : (r.kind ≡ Name) ⊎ (r.kind ≡ String) ⊎ (r.kind ≡ Number) ⊎ (r.kind ≡ Literal) → length s - r.next < length s - at
  closing_less_inner (inl q) = less (piece_takes t Name q)
  closing_less_inner (inr (inl q)) = less (piece_takes t String q)
  closing_less_inner (inr (inr (inl q))) = less (piece_takes t Number q)
  closing_less_inner (inr (inr (inr q))) = less (piece_takes t Literal q)

pub ruleset closing = (closing_start, closing_none, closing_opens, closing_close, closing_inner, closing_done, closing_less_opens, closing_less_close, closing_less_inner, rules)
