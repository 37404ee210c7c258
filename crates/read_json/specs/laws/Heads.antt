-- Laws of the elements of an array, one by one.
--     Seeking        the invariant of the walk to the next element;   `search seeking`
--     next_found     the answers of `element_next`
--     list_none, list_string, list_number, list_literal, list_array, list_object    the elements as a list, by the one that was found
use Rattle.std.specs.Prelude.{◌≡◌, ◌⊎◌, List, [], ◌∷◌, ℕ, ◌-◌, ◌≤◌, ◌<◌, length}
use Rattle.std.proofs.Math.Path.{refl, ap}
use Rattle.std.proofs.Common.{inl, inr, sym, subst, ◌∙◌, arith, rules}
use Prim.{tt}
use Rattle.json_text.specs.Tree.{Json, Token, opens_array, opens_object, closes, name, scalar, Elements, no_elements, element, array, object, end_place, elements_by, elements, members, element_list}
use Rattle.read_json.specs.TreeAt.{tokens_at, elements_at, string_at}
use Rattle.read_json.specs.laws.TreeAt.{elements_are, members_are, elements_past}
use Rattle.read_json.specs.Pieces.{Taken, PieceAt}
use Rattle.read_json.specs.laws.Pieces.{piece_is, piece_takes}
use Rattle.read_json.specs.Closing.{BehindAt}
use Rattle.read_json.specs.Heads.{value_by, behind_by, head_by, HeadAt, NextAt, head_of}
use Rattle.read_json.specs.declared.Head.{Head}
use Rattle.read_json.specs.declared.HeadKind.{HeadKind}
use Rattle.read_json.specs.declared.HeadKind.TheVariants as heads
use Rattle.read_json.specs.declared.Piece.{Piece}
use Rattle.read_json.specs.declared.PieceKind.TheVariants.{Absent, Array, Object, Close, Name, String, Number, Literal}

pub record Seeking (s : List ℕ) (from at : ℕ) : Type 0 where
  pub same : elements_at s from ≡ elements_at s at
  pub onward : from ≤ at

pub seeking_start : (s : List ℕ) (from : ℕ) → Seeking s from from
seeking_start s from = record { same = refl; onward = omega arith }

-- ---- by tokens

module _ (ts : List Token) where
  by_array : (p : ℕ) → elements (opens_array p ∷ ts) 0 ≡ element (array p (end_place ts 0) (elements ts 0)) (elements ts 1)
  unfolding elements elements_by
  by_array p = refl

  by_object : (p : ℕ) → elements (opens_object p ∷ ts) 0 ≡ element (object p (end_place ts 0) (members ts 0)) (elements ts 1)
  unfolding elements elements_by
  by_object p = refl

  by_close : (p : ℕ) → elements (closes p ∷ ts) 0 ≡ no_elements
  unfolding elements elements_by
  by_close p = refl

  by_name : (p : ℕ) (n : List ℕ) → elements (name p n ∷ ts) 0 ≡ elements ts 0
  unfolding elements elements_by
  by_name p n = refl

  by_scalar : (v : Json) → elements (scalar v ∷ ts) 0 ≡ element v (elements ts 0)
  unfolding elements elements_by
  by_scalar v = refl

by_none : elements [] 0 ≡ no_elements
unfolding elements
by_none = refl

-- ---- by what was found

module _ {s : List ℕ} {from at : ℕ} (w : Seeking s from at) {r : Piece} (t : PieceAt s at r) where
  from_tokens : (ts : List Token) → tokens_at s at ≡ ts → elements_at s from ≡ elements ts 0
  from_tokens ts e = w.same ∙ elements_are s at ∙ ap (λ (us : List Token). elements us 0) e

  onward : Taken s at r.place r.next → Taken s from r.place r.next
  onward k = record { onward = omega (arith, w.onward, k.onward); some = k.some; inside = k.inside }

  -- nothing more
  nothing : elements_at s from ≡ no_elements → {h : Head} → h ≡ head_of heads.Absent (length s) (length s) → HeadAt s from h
  nothing e f = rw f (record { is = e; inside = omega arith; takes = tt })

  pub seeking_none : (r.kind ≡ Absent) ⊎ (r.kind ≡ Close) → {h : Head} → h ≡ head_of heads.Absent (length s) (length s) → HeadAt s from h
  seeking_none (inl q) f = nothing (from_tokens _ (piece_is t Absent q) ∙ by_none) f
  seeking_none (inr q) f = nothing (from_tokens _ (piece_is t Close q) ∙ by_close (tokens_at s r.next) r.place) f

  pub seeking_name : r.kind ≡ Name → Seeking s from r.next
  seeking_name q =
      let k = piece_takes t Name q in
      record { same = from_tokens _ (piece_is t Name q) ∙ by_name (tokens_at s r.next) r.place (string_at s r.place) ∙ sym (elements_are s r.next); onward = omega (arith, w.onward, k.onward, k.some) }

  pub seeking_less : r.kind ≡ Name → length s - r.next < length s - at
  seeking_less q = let k = piece_takes t Name q in omega (arith, k.onward, k.some, k.inside)

  pub seeking_array : r.kind ≡ Array → {h : Head} → h ≡ head_of heads.Array r.place r.next → HeadAt s from h
  seeking_array q f =
      let k = piece_takes t Array q in
      rw f (record { is = from_tokens _ (piece_is t Array q) ∙ by_array (tokens_at s r.next) r.place ∙ rw (elements_are s r.next); inside = k.inside; takes = onward k })

  pub seeking_object : r.kind ≡ Object → {h : Head} → h ≡ head_of heads.Object r.place r.next → HeadAt s from h
  seeking_object q f =
      let k = piece_takes t Object q in
      rw f (record { is = from_tokens _ (piece_is t Object q) ∙ by_object (tokens_at s r.next) r.place ∙ rw (members_are s r.next); inside = k.inside; takes = onward k })

  scalar_is : (v : Json) → tokens_at s at ≡ scalar v ∷ tokens_at s r.next → elements_at s from ≡ element v (elements_at s r.next)
  scalar_is v e = from_tokens _ e ∙ by_scalar (tokens_at s r.next) v ∙ ap (element v) (sym (elements_are s r.next))

  pub seeking_string : r.kind ≡ String → {h : Head} → h ≡ head_of heads.String r.place r.next → HeadAt s from h
  seeking_string q f = let k = piece_takes t String q in rw f (record { is = scalar_is _ (piece_is t String q); inside = k.inside; takes = onward k })

  pub seeking_number : r.kind ≡ Number → {h : Head} → h ≡ head_of heads.Number r.place r.next → HeadAt s from h
  seeking_number q f = let k = piece_takes t Number q in rw f (record { is = scalar_is _ (piece_is t Number q); inside = k.inside; takes = onward k })

  pub seeking_literal : r.kind ≡ Literal → {h : Head} → h ≡ head_of heads.Literal r.place r.next → HeadAt s from h
  seeking_literal q f = let k = piece_takes t Literal q in rw f (record { is = scalar_is _ (piece_is t Literal q); inside = k.inside; takes = onward k })

pub ruleset seeking = (
  seeking_start,
  seeking_none,
  seeking_name,
  seeking_less,
  seeking_array,
  seeking_object,
  seeking_string,
  seeking_number,
  seeking_literal,
  rules,
)

-- ---- the elements behind one

module _ {s : List ℕ} {h : Head} (l : h.next ≤ length s) where
  behind_is : (k : HeadKind) → h.kind ≡ k → (r : ℕ) → behind_by k s h.next ≡ elements_at s r → h.next ≤ r → r ≤ length s → NextAt s h r
  behind_is k q r e o i = record { is = ap (λ (x : HeadKind). behind_by x s h.next) q ∙ e; onward = o; inside = i }

  pub next_none : h.kind ≡ heads.Absent → NextAt s h (length s)
  next_none q = behind_is heads.Absent q (length s) (sym (elements_past s (length s) (omega arith))) l (omega arith)

  pub next_scalar : (h.kind ≡ heads.String) ⊎ (h.kind ≡ heads.Number) ⊎ (h.kind ≡ heads.Literal) → NextAt s h h.next
  next_scalar (inl q) = behind_is heads.String q h.next refl (omega arith) l
  next_scalar (inr (inl q)) = behind_is heads.Number q h.next refl (omega arith) l
  next_scalar (inr (inr q)) = behind_is heads.Literal q h.next refl (omega arith) l

  module _ {r : ℕ} (d : BehindAt s h.next r) where
    pub next_container : (h.kind ≡ heads.Array) ⊎ (h.kind ≡ heads.Object) → NextAt s h r
    next_container (inl q) = behind_is heads.Array q r d.elements_after d.onward d.inside
    next_container (inr q) = behind_is heads.Object q r d.elements_after d.onward d.inside

pub ruleset next_found = (next_none, next_scalar, next_container, rules)

-- ---- the elements as a list

module _ {s : List ℕ} {at : ℕ} {h : Head} (t : HeadAt s at h) where
  by_kind : (k : HeadKind) → h.kind ≡ k → elements_at s at ≡ head_by k s h.place h.next
  by_kind k q = t.is ∙ ap (λ (x : HeadKind). head_by x s h.place h.next) q

  pub list_none : h.kind ≡ heads.Absent → element_list (elements_at s at) ≡ []
  unfolding element_list
  list_none q = ap element_list (by_kind heads.Absent q)

  -- of a kind that is some
  list_by : (k : HeadKind) → h.kind ≡ k → head_by k s h.place h.next ≡ element (value_by k s h.place h.next) (behind_by k s h.next) → {r : ℕ} → NextAt s h r →
      element_list (elements_at s at) ≡ value_by k s h.place h.next ∷ element_list (elements_at s r)
  unfolding element_list
  list_by k q e n =
      ap element_list (by_kind k q ∙ e)
      ∙ ap (λ (es : Elements). value_by k s h.place h.next ∷ element_list es) (sym (ap (λ (x : HeadKind). behind_by x s h.next) q) ∙ n.is)

  module _ {r : ℕ} (n : NextAt s h r) where
    pub list_string : h.kind ≡ heads.String → element_list (elements_at s at) ≡ value_by heads.String s h.place h.next ∷ element_list (elements_at s r)
    list_string q = list_by heads.String q refl n

    pub list_number : h.kind ≡ heads.Number → element_list (elements_at s at) ≡ value_by heads.Number s h.place h.next ∷ element_list (elements_at s r)
    list_number q = list_by heads.Number q refl n

    pub list_literal : h.kind ≡ heads.Literal → element_list (elements_at s at) ≡ value_by heads.Literal s h.place h.next ∷ element_list (elements_at s r)
    list_literal q = list_by heads.Literal q refl n

    pub list_array : h.kind ≡ heads.Array → element_list (elements_at s at) ≡ value_by heads.Array s h.place h.next ∷ element_list (elements_at s r)
    list_array q = list_by heads.Array q refl n

    pub list_object : h.kind ≡ heads.Object → element_list (elements_at s at) ≡ value_by heads.Object s h.place h.next ∷ element_list (elements_at s r)
    list_object q = list_by heads.Object q refl n
