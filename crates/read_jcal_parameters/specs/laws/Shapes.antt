-- Laws of what specs/Shapes.antt defines.
--     list_end, list_more, list_other, list_some, list_any    the elements of an array, by the one that was found
--     given_array, given_string, given_other       the values of a member, by the element that was found
--     string_inside, string_less, head_inside      bounds
--     members_none, members_some                   the members of an object, by the one that was found;   member_taken, member_inside, member_fits, member_less: bounds
--     Walking                                      a walk over members: what is asked of all is asked of those that are left
use Rattle.std.specs.Prelude.{◌≡◌, Bool, ℕ, ◌-◌, ◌*◌, ◌^◌, ◌≤◌, ◌<◌, length, None, Some}
use Rattle.std.proofs.Math.Path.{refl, sym, ap}
use Rattle.std.proofs.Common.{subst, ◌∙◌, arith}
use Rattle.std.proofs.Math.Bool.{true, false}
use Rattle.std.proofs.lemmas.Bool.{false≢true}
use mathlib.Core.List.{List, [], ◌∷◌}
use Rattle.octets.specs.Reading.{read_or}
use Rattle.json_text.specs.Tree.{Json, string, Member, Elements, first_of, element_list, member_list}
use Rattle.json_text.specs.Kinds.{as_string, or_alone}
use Rattle.read_json.specs.TreeAt.{elements_at, string_at}
use Rattle.read_json.specs.Pieces.{Taken}
use Rattle.read_json.specs.Heads.{value_by, behind_by, head_by, HeadTakes, HeadAt, NextAt}
use Rattle.read_json.specs.MemberHeads.{MemberAt}
use Rattle.read_json.specs.Kinds.{is_none, is_string, is_array}
use Rattle.read_json.specs.laws.Kinds.{kind_none, kind_string, kind_array}
use Rattle.read_json.specs.declared.Head.{Head}
use Rattle.read_json.specs.declared.HeadKind.{HeadKind}
use Rattle.read_json.specs.declared.HeadKind.TheVariants.{Absent, String, Number, Literal, Array, Object}
use Rattle.read_json.specs.declared.MemberHead.{MemberHead}
use Rattle.read_jcal_parameters.specs.Shapes.{list_at, given_at, parameters_at, member_of}

-- ---- the elements of an array

-- an element that is no string, and what follows it
pub record Other (vs : List Json) : Type 0 where
  pub first : Json
  pub more : List Json
  pub is : vs ≡ first ∷ more
  pub kind : as_string first ≡ None

module _ {s : List ℕ} {at : ℕ} {h : Head} (t : HeadAt s at h) where
  by_kind : (k : HeadKind) → h.kind ≡ k → elements_at s at ≡ head_by k s h.place h.next
  by_kind k q = t.is ∙ ap (λ (x : HeadKind). head_by x s h.place h.next) q

  pub head_inside : h.next ≤ length s
  head_inside = t.inside

  pub list_end : {b : Bool} → b ≡ is_none h.kind → b ≡ true → list_at s at ≡ []
  unfolding list_at element_list
  list_end e q = ap element_list (by_kind Absent (kind_none h.kind (sym e ∙ q)))

  pub list_some : {b : Bool} → b ≡ is_none h.kind → b ≡ false → (v : Json) × (vs : List Json) × (list_at s at ≡ v ∷ vs)
  unfolding list_at element_list
  list_some e q = go h.kind refl (sym e ∙ q)
    where
      go : (k : HeadKind) → h.kind ≡ k → is_none k ≡ false → (v : Json) × (vs : List Json) × (element_list (elements_at s at) ≡ v ∷ vs)
      go Absent z f = absurd (false≢true (sym f))
      go String z f = (_, _, ap element_list (by_kind String z))
      go Number z f = (_, _, ap element_list (by_kind Number z))
      go Literal z f = (_, _, ap element_list (by_kind Literal z))
      go Array z f = (_, _, ap element_list (by_kind Array z))
      go Object z f = (_, _, ap element_list (by_kind Object z))

  -- and those behind it
  pub list_any : {b : Bool} {r : ℕ} → NextAt s h r → b ≡ is_none h.kind → b ≡ false → (v : Json) × (list_at s at ≡ v ∷ list_at s r)
  unfolding list_at element_list
  list_any {b} {r} n e q = go h.kind refl (sym e ∙ q)
    where
      on : (k : HeadKind) → h.kind ≡ k → behind_by k s h.next ≡ elements_at s r
      on k z = sym (ap (λ (x : HeadKind). behind_by x s h.next) z) ∙ n.is

      go : (k : HeadKind) → h.kind ≡ k → is_none k ≡ false → (v : Json) × (element_list (elements_at s at) ≡ v ∷ element_list (elements_at s r))
      go Absent z f = absurd (false≢true (sym f))
      go String z f = (value_by String s h.place h.next, ap element_list (by_kind String z) ∙ ap (λ (es : Elements). value_by String s h.place h.next ∷ element_list es) (on String z))
      go Number z f = (value_by Number s h.place h.next, ap element_list (by_kind Number z) ∙ ap (λ (es : Elements). value_by Number s h.place h.next ∷ element_list es) (on Number z))
      go Literal z f = (value_by Literal s h.place h.next, ap element_list (by_kind Literal z) ∙ ap (λ (es : Elements). value_by Literal s h.place h.next ∷ element_list es) (on Literal z))
      go Array z f = (value_by Array s h.place h.next, ap element_list (by_kind Array z) ∙ ap (λ (es : Elements). value_by Array s h.place h.next ∷ element_list es) (on Array z))
      go Object z f = (value_by Object s h.place h.next, ap element_list (by_kind Object z) ∙ ap (λ (es : Elements). value_by Object s h.place h.next ∷ element_list es) (on Object z))

  pub list_other : {b c : Bool} → b ≡ is_string h.kind → b ≡ false → c ≡ is_none h.kind → c ≡ false → Other (list_at s at)
  unfolding list_at element_list
  list_other e q f r = go h.kind refl (sym e ∙ q) (sym f ∙ r)
    where
      go : (k : HeadKind) → h.kind ≡ k → is_string k ≡ false → is_none k ≡ false → Other (element_list (elements_at s at))
      go Absent z x y = absurd (false≢true (sym y))
      go String z x y = absurd (false≢true (sym x))
      go Number z x y = record { first = _; more = _; is = ap element_list (by_kind Number z); kind = refl }
      go Literal z x y = record { first = _; more = _; is = ap element_list (by_kind Literal z); kind = refl }
      go Array z x y = record { first = _; more = _; is = ap element_list (by_kind Array z); kind = refl }
      go Object z x y = record { first = _; more = _; is = ap element_list (by_kind Object z); kind = refl }

  module _ {b : Bool} (e : b ≡ is_string h.kind) (q : b ≡ true) where
    named : h.kind ≡ String
    named = kind_string h.kind (sym e ∙ q)

    pub list_more : list_at s at ≡ string h.place (string_at s h.place) ∷ list_at s h.next
    unfolding list_at element_list
    list_more = ap element_list (by_kind String named)

    taken : Taken s at h.place h.next
    taken = subst (λ (k : HeadKind). HeadTakes k s at h.place h.next) named t.takes

    pub string_inside : h.place < length s
    string_inside = omega (arith, taken.some, taken.inside)

    pub string_less : length s - h.next < length s - at
    string_less = omega (arith, taken.onward, taken.some, taken.inside)

    pub given_string : given_at s at ≡ string h.place (string_at s h.place) ∷ []
    unfolding given_at read_or
    given_string = ap (λ (es : Elements). or_alone (first_of es)) (by_kind String named)

  -- ---- the values of a member

  pub given_array : {b : Bool} → b ≡ is_array h.kind → b ≡ true → given_at s at ≡ list_at s h.next
  unfolding given_at list_at read_or
  given_array e q = ap (λ (es : Elements). or_alone (first_of es)) (by_kind Array (kind_array h.kind (sym e ∙ q)))

  pub given_other : {b c : Bool} → b ≡ is_array h.kind → b ≡ false → c ≡ is_string h.kind → c ≡ false → Other (given_at s at)
  unfolding given_at read_or
  given_other e q f r = go h.kind refl (sym e ∙ q) (sym f ∙ r)
    where
      alone : (k : HeadKind) → h.kind ≡ k → or_alone (first_of (elements_at s at)) ≡ or_alone (first_of (head_by k s h.place h.next))
      alone k z = ap (λ (es : Elements). or_alone (first_of es)) (by_kind k z)

      go : (k : HeadKind) → h.kind ≡ k → is_array k ≡ false → is_string k ≡ false → Other (or_alone (first_of (elements_at s at)))
      go Absent z x y = record { first = _; more = _; is = alone Absent z; kind = refl }
      go String z x y = absurd (false≢true (sym y))
      go Number z x y = record { first = _; more = _; is = alone Number z; kind = refl }
      go Literal z x y = record { first = _; more = _; is = alone Literal z; kind = refl }
      go Array z x y = absurd (false≢true (sym x))
      go Object z x y = record { first = _; more = _; is = alone Object z; kind = refl }

-- ---- the members of an object

pub members_none : {s : List ℕ} {at : ℕ} → MemberAt s at None → parameters_at s at ≡ []
unfolding parameters_at member_list
members_none t = ap member_list t.is

module _ {s : List ℕ} {at : ℕ} {m : MemberHead} (t : MemberAt s at (Some m)) where
  pub members_some : parameters_at s at ≡ member_of s m ∷ parameters_at s m.next
  unfolding parameters_at member_list
  members_some = ap member_list t.is

  pub member_taken : Taken s at m.name m.next
  member_taken = t.takes

  pub member_inside : m.name < length s
  member_inside = omega (arith, t.takes.some, t.takes.inside)

  pub member_fits : length s * 1 < 2 ^ 63 → m.name < 2 ^ 63 - 1
  member_fits h = omega (arith, t.takes.some, t.takes.inside)

  pub member_less : length s - m.next < length s - at
  member_less = omega (arith, t.takes.onward, t.takes.some, t.takes.inside)

-- ---- a walk over members

pub record Walking {A : Type 0} (f : List Member → A) (s : List ℕ) (from at : ℕ) : Type 0 where
  pub is : f (parameters_at s from) ≡ f (parameters_at s at)

module _ {A : Type 0} (f : List Member → A) (s : List ℕ) where
  pub walking_start : (from : ℕ) → Walking f s from from
  walking_start from = record { is = refl }

module _ {A : Type 0} {f : List Member → A} {s : List ℕ} {from at : ℕ} (w : Walking f s from at) where
  pub walk_none : MemberAt s at None → f (parameters_at s from) ≡ f []
  walk_none t = w.is ∙ ap f (members_none t)

  pub walk_some : {m : MemberHead} → MemberAt s at (Some m) → f (parameters_at s from) ≡ f (member_of s m ∷ parameters_at s m.next)
  walk_some t = w.is ∙ ap f (members_some t)
