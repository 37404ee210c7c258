-- Laws of the members of an object, one by one.
--     Searching     the invariant of the walk to the next member;   `search searching`
use Rattle.std.specs.Prelude.{◌≡◌, None, Some, ◌⊎◌, List, [], ◌∷◌, ℕ, ◌-◌, ◌≤◌, ◌<◌, length}
use Rattle.std.proofs.Math.Path.{refl}
use Rattle.std.proofs.Common.{inl, inr, sym, ap, subst, ◌∙◌, arith, rules}
use Prim.{tt}
use Rattle.json_text.specs.Tree.{Json, Token, opens_array, opens_object, closes, name, scalar, no_members, member, first_of, members_by, elements, members}
use Rattle.read_json.specs.TreeAt.{tokens_at, members_at, string_at}
use Rattle.read_json.specs.laws.TreeAt.{elements_are, members_are}
use Rattle.read_json.specs.Pieces.{Taken, PieceAt}
use Rattle.read_json.specs.laws.Pieces.{piece_is, piece_takes}
use Rattle.read_json.specs.Closing.{BehindAt}
use Rattle.read_json.specs.MemberHeads.{MemberAt}
use Rattle.read_json.specs.declared.Piece.{Piece}
use Rattle.read_json.specs.declared.PieceKind.TheVariants.{Absent, Array, Object, Close, Name, String, Number, Literal}

pub record Searching (s : List ℕ) (from at : ℕ) : Type 0 where
  pub same : members_at s from ≡ members_at s at
  pub onward : from ≤ at

pub searching_start : (s : List ℕ) (from : ℕ) → Searching s from from
searching_start s from = record { same = refl; onward = omega arith }

-- ---- by tokens

module _ (ts : List Token) where
  by_array : (p : ℕ) → members (opens_array p ∷ ts) 0 ≡ members ts 1
  unfolding members members_by
  by_array p = refl

  by_object : (p : ℕ) → members (opens_object p ∷ ts) 0 ≡ members ts 1
  unfolding members members_by
  by_object p = refl

  by_close : (p : ℕ) → members (closes p ∷ ts) 0 ≡ no_members
  unfolding members members_by
  by_close p = refl

  by_name : (p : ℕ) (n : List ℕ) → members (name p n ∷ ts) 0 ≡ member n (first_of (elements ts 0)) (members ts 0)
  unfolding members members_by
  by_name p n = refl

  by_scalar : (v : Json) → members (scalar v ∷ ts) 0 ≡ members ts 0
  unfolding members members_by
  by_scalar v = refl

by_none : members [] 0 ≡ no_members
unfolding members
by_none = refl

-- ---- by what was found

module _ {s : List ℕ} {from at : ℕ} (w : Searching s from at) {r : Piece} (t : PieceAt s at r) where
  from_tokens : (ts : List Token) → tokens_at s at ≡ ts → members_at s from ≡ members ts 0
  from_tokens ts e = w.same ∙ members_are s at ∙ ap (λ (us : List Token). members us 0) e

  pub searching_none : (r.kind ≡ Absent) ⊎ (r.kind ≡ Close) → MemberAt s from None
  searching_none (inl q) = record { is = from_tokens _ (piece_is t Absent q) ∙ by_none; takes = tt }
  searching_none (inr q) = record { is = from_tokens _ (piece_is t Close q) ∙ by_close (tokens_at s r.next) r.place; takes = tt }

  pub searching_name : r.kind ≡ Name → MemberAt s from (Some (record { name = r.place; next = r.next }))
  searching_name q =
      let k = piece_takes t Name q in
      record {
        is = from_tokens _ (piece_is t Name q) ∙ by_name (tokens_at s r.next) r.place (string_at s r.place) ∙ rw (elements_are s r.next, members_are s r.next);
        takes = record { onward = omega (arith, w.onward, k.onward); some = k.some; inside = k.inside };
      }

  -- a value is passed over
  pub inside_container : (r.kind ≡ Array) ⊎ (r.kind ≡ Object) → r.next ≤ length s
  inside_container (inl q) = (piece_takes t Array q).inside
  inside_container (inr q) = (piece_takes t Object q).inside

  module _ {e : ℕ} (d : BehindAt s r.next e) where
    past : (ts : List Token) → tokens_at s at ≡ ts → members ts 0 ≡ members (tokens_at s r.next) 1 → Taken s at r.place r.next → Searching s from e
    past ts p q k = record { same = from_tokens ts p ∙ q ∙ d.members_after; onward = omega (arith, w.onward, k.onward, k.some, d.onward) }

    less : Taken s at r.place r.next → length s - e < length s - at
    less k = omega (arith, k.onward, k.some, d.onward, d.inside)

    pub searching_container : (r.kind ≡ Array) ⊎ (r.kind ≡ Object) → Searching s from e
    searching_container (inl q) = past _ (piece_is t Array q) (by_array (tokens_at s r.next) r.place) (piece_takes t Array q)
    searching_container (inr q) = past _ (piece_is t Object q) (by_object (tokens_at s r.next) r.place) (piece_takes t Object q)

    pub less_container : (r.kind ≡ Array) ⊎ (r.kind ≡ Object) → length s - e < length s - at
    less_container (inl q) = less (piece_takes t Array q)
    less_container (inr q) = less (piece_takes t Object q)

  scalar_on : (v : Json) → tokens_at s at ≡ scalar v ∷ tokens_at s r.next → Taken s at r.place r.next → Searching s from r.next
  scalar_on v e k = record { same = from_tokens _ e ∙ by_scalar (tokens_at s r.next) v ∙ sym (members_are s r.next); onward = omega (arith, w.onward, k.onward, k.some) }

  scalar_less : Taken s at r.place r.next → length s - r.next < length s - at
  scalar_less k = omega (arith, k.onward, k.some, k.inside)

  pub searching_scalar : (r.kind ≡ String) ⊎ (r.kind ≡ Number) ⊎ (r.kind ≡ Literal) → Searching s from r.next
  searching_scalar (inl q) = scalar_on _ (piece_is t String q) (piece_takes t String q)
  searching_scalar (inr (inl q)) = scalar_on _ (piece_is t Number q) (piece_takes t Number q)
  searching_scalar (inr (inr q)) = scalar_on _ (piece_is t Literal q) (piece_takes t Literal q)

  pub less_scalar : (r.kind ≡ String) ⊎ (r.kind ≡ Number) ⊎ (r.kind ≡ Literal) → length s - r.next < length s - at
  less_scalar (inl q) = scalar_less (piece_takes t String q)
  less_scalar (inr (inl q)) = scalar_less (piece_takes t Number q)
  less_scalar (inr (inr q)) = scalar_less (piece_takes t Literal q)

pub ruleset searching = (searching_start, searching_none, searching_name, inside_container, searching_container, less_container, searching_scalar, less_scalar, rules)
