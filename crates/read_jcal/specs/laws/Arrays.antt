-- Laws of the elements of an array.
--     first_found, others_found     the first element of a list, and those behind it
--     element_found, none_found     the elements, where there is one, and where there is none
--     as_string_lem, as_array_lem, as_object_lem, no_string, no_array, no_object  an element by its kind
--     value_array, value_other, value_place    its value
--     three_first, three_second, three_third, three_others     the first three of a list
--     arrays        the rules of the elements of an array
use Rattle.std.specs.Prelude.{◌≡◌, Bool, true, false, not, List, ◌∷◌, ℕ, ◌-◌, ◌≤◌, ◌<◌, length, drop, None, Some}
use Rattle.std.proofs.Math.Path.{refl, sym, ap}
use Rattle.std.proofs.Common.{◌∙◌, arith, drop-drop, rules}
use Rattle.std.proofs.lemmas.Bool.{false≢true, not-true, not-false}
use Rattle.octets.specs.Pick.{pick, ◌or◌}
use Rattle.octets.specs.Words.{is_empty}
use Rattle.octets.specs.Reading.{and_then, is_read}
use Rattle.values.specs.Valid.{is_amount}
use Rattle.json_text.specs.Tree.{Json, array, Elements, no_elements, element, place_of, end_place, element_list, member_list}
use Rattle.json_text.specs.Kinds.{as_string, as_array, as_object, first_in, nth}
use Rattle.read_json.specs.TreeAt.{tokens_at, elements_at, members_at, string_at}
use Rattle.read_json.specs.Pieces.{Taken}
use Rattle.read_json.specs.Heads.{value_by, value_of_head, behind_by, head_by, HeadAt, NextAt}
use Rattle.read_json.specs.Kinds.{is_there, is_string, is_array, is_object}
use Rattle.read_json.specs.laws.Kinds.{kind_string, kind_array, kind_object, string_there, there_by, none_by, taken_by}
use Rattle.read_json.specs.declared.Head.{Head}
use Rattle.read_json.specs.declared.HeadKind.{HeadKind}
use Rattle.read_json.specs.declared.HeadKind.TheVariants.{Absent, String, Number, Literal, Array, Object}
use Rattle.read_jcal.specs.Arrays.{place_in, found_by, found, Inside, ThreeAt, ThreeIn, name_found, array_found, object_found}
use Rattle.read_jcal.specs.declared.Three.{Three}

-- ---- by kinds

module _ (s : List ℕ) (p n : ℕ) where
  first_by : (k : HeadKind) → first_in (element_list (head_by k s p n)) ≡ found_by k s p n
  unfolding element_list
  first_by Absent = refl
  first_by String = refl
  first_by Number = refl
  first_by Literal = refl
  first_by Array = refl
  first_by Object = refl

  others_by : (k : HeadKind) → drop 1 (element_list (head_by k s p n)) ≡ element_list (behind_by k s n)
  unfolding element_list
  others_by Absent = refl
  others_by String = refl
  others_by Number = refl
  others_by Literal = refl
  others_by Array = refl
  others_by Object = refl

  no_string_by : (k : HeadKind) → is_string k ≡ false → and_then (found_by k s p n) as_string ≡ None
  unfolding and_then
  no_string_by Absent h = refl
  no_string_by String h = absurd (false≢true (sym h))
  no_string_by Number h = refl
  no_string_by Literal h = refl
  no_string_by Array h = refl
  no_string_by Object h = refl

  no_array_by : (k : HeadKind) → is_array k ≡ false → and_then (found_by k s p n) as_array ≡ None
  unfolding and_then
  no_array_by Absent h = refl
  no_array_by String h = refl
  no_array_by Number h = refl
  no_array_by Literal h = refl
  no_array_by Array h = absurd (false≢true (sym h))
  no_array_by Object h = refl

  no_object_by : (k : HeadKind) → is_object k ≡ false → and_then (found_by k s p n) as_object ≡ None
  unfolding and_then
  no_object_by Absent h = refl
  no_object_by String h = refl
  no_object_by Number h = refl
  no_object_by Literal h = refl
  no_object_by Array h = refl
  no_object_by Object h = absurd (false≢true (sym h))

-- ---- an element by its kind

module _ (s : List ℕ) (h : Head) where
  pub as_string_lem : is_string h.kind ≡ true → name_found s h ≡ Some (string_at s h.place)
  unfolding and_then
  as_string_lem y = ap (λ (k : HeadKind). and_then (found_by k s h.place h.next) as_string) (kind_string h.kind y)

  pub as_array_lem : is_array h.kind ≡ true → array_found s h ≡ Some (element_list (elements_at s h.next))
  unfolding and_then
  as_array_lem y = ap (λ (k : HeadKind). and_then (found_by k s h.place h.next) as_array) (kind_array h.kind y)

  pub as_object_lem : is_object h.kind ≡ true → object_found s h ≡ Some (member_list (members_at s h.next))
  unfolding and_then
  as_object_lem y = ap (λ (k : HeadKind). and_then (found_by k s h.place h.next) as_object) (kind_object h.kind y)

  pub no_string : is_string h.kind ≡ false → name_found s h ≡ None
  no_string y = no_string_by s h.place h.next h.kind y

  pub no_array : is_array h.kind ≡ false → array_found s h ≡ None
  no_array y = no_array_by s h.place h.next h.kind y

  pub no_object : is_object h.kind ≡ false → object_found s h ≡ None
  no_object y = no_object_by s h.place h.next h.kind y

-- ---- its value

module _ (s : List ℕ) (p n : ℕ) where
  other_by : (k : HeadKind) → is_array k ≡ false → as_array (value_by k s p n) ≡ None
  other_by Absent h = refl
  other_by String h = refl
  other_by Number h = refl
  other_by Literal h = refl
  other_by Array h = absurd (false≢true (sym h))
  other_by Object h = refl

  place_by : (k : HeadKind) → place_of (value_by k s p n) ≡ pick (is_there k) p 0
  unfolding pick
  place_by Absent = refl
  place_by String = refl
  place_by Number = refl
  place_by Literal = refl
  place_by Array = refl
  place_by Object = refl

  read_by : (k : HeadKind) → is_read (and_then (found_by k s p n) as_array) ≡ is_array k
  unfolding and_then is_read
  read_by Absent = refl
  read_by String = refl
  read_by Number = refl
  read_by Literal = refl
  read_by Array = refl
  read_by Object = refl

module _ (s : List ℕ) (h : Head) where
  pub value_array : is_array h.kind ≡ true → value_of_head s h ≡ array h.place (end_place (tokens_at s h.next) 0) (elements_at s h.next)
  value_array y = ap (λ (k : HeadKind). value_by k s h.place h.next) (kind_array h.kind y)

  pub value_other : is_array h.kind ≡ false → as_array (value_of_head s h) ≡ None
  value_other y = other_by s h.place h.next h.kind y

  pub value_place : place_of (value_of_head s h) ≡ place_in h
  value_place = place_by s h.place h.next h.kind

  pub array_read : is_read (array_found s h) ≡ is_array h.kind
  array_read = read_by s h.place h.next h.kind

-- ---- the first element, and those behind it

module _ {s : List ℕ} {at : ℕ} {h : Head} (t : HeadAt s at h) where
  pub first_found : first_in (element_list (elements_at s at)) ≡ found s h
  first_found = ap (λ (es : Elements). first_in (element_list es)) t.is ∙ first_by s h.place h.next h.kind

  pub none_found : is_there h.kind ≡ false → elements_at s at ≡ no_elements
  none_found y = t.is ∙ none_by s h.place h.next h.kind y

  taken : is_there h.kind ≡ true → Taken s at h.place h.next
  taken y = taken_by s h.place h.next h.kind y at t.takes

  pub head_inside : h.next ≤ length s
  head_inside = t.inside

  pub head_in : Inside s h
  head_in = record { next = t.inside; string = λ y. let k = taken (string_there h.kind y) in omega (arith, k.some, k.inside) }

  pub element_here : is_there h.kind ≡ true → elements_at s at ≡ element (value_of_head s h) (behind_by h.kind s h.next)
  element_here y = t.is ∙ there_by s h.place h.next h.kind y

  pub list_here : is_there h.kind ≡ true → element_list (elements_at s at) ≡ value_of_head s h ∷ element_list (behind_by h.kind s h.next)
  unfolding element_list
  list_here y = ap element_list (element_here y)

  module _ {r : ℕ} (n : NextAt s h r) where
    pub others_found : drop 1 (element_list (elements_at s at)) ≡ element_list (elements_at s r)
    others_found = ap (λ (es : Elements). drop 1 (element_list es)) t.is ∙ others_by s h.place h.next h.kind ∙ ap element_list n.is

    pub element_found : is_there h.kind ≡ true → elements_at s at ≡ element (value_of_head s h) (elements_at s r)
    element_found y = t.is ∙ there_by s h.place h.next h.kind y ∙ ap (element (value_of_head s h)) n.is

    pub list_found : is_there h.kind ≡ true → element_list (elements_at s at) ≡ value_of_head s h ∷ element_list (elements_at s r)
    unfolding element_list
    list_found y = ap element_list (element_found y)

    pub next_less : {b : Bool} → b ≡ is_there h.kind → b ≡ true → length s - r < length s - at
    next_less e y = let k = taken (sym e ∙ y) in omega (arith, k.onward, k.some, k.inside, n.onward, n.inside)

-- ---- whether there are any, and how many

any_by : (s : List ℕ) (p n : ℕ) (k : HeadKind) → is_there k ≡ not (is_empty (element_list (head_by k s p n)))
unfolding element_list
any_by s p n Absent = refl
any_by s p n String = refl
any_by s p n Number = refl
any_by s p n Literal = refl
any_by s p n Array = refl
any_by s p n Object = refl

module _ {s : List ℕ} {at : ℕ} {h : Head} (t : HeadAt s at h) {b : Bool} (e : b ≡ is_there h.kind) where
  pub any_found : b ≡ not (is_empty (element_list (elements_at s at)))
  any_found = e ∙ any_by s h.place h.next h.kind ∙ ap (λ (es : Elements). not (is_empty (element_list es))) (sym t.is)

  pub amount_none : (l : Bool) → b ≡ false → false ≡ is_amount l (element_list (elements_at s at))
  unfolding element_list
  amount_none l y = sym (ap (λ (es : Elements). is_amount l (element_list es)) (none_found t (sym e ∙ y)))

  amount_by : (l : Bool) → b ≡ true → is_amount l (element_list (elements_at s at)) ≡ (l or is_empty (element_list (behind_by h.kind s h.next)))
  unfolding element_list
  amount_by l y = ap (λ (es : Elements). is_amount l (element_list es)) (t.is ∙ there_by s h.place h.next h.kind (sym e ∙ y))

  pub amount_listed : {l : Bool} → b ≡ true → l ≡ true → l ≡ is_amount l (element_list (elements_at s at))
  unfolding ◌or◌
  amount_listed {l} y z = z ∙ sym (amount_by l y ∙ rw z)

  module _ {l : Bool} (y : b ≡ true) (z : l ≡ false) {r : ℕ} (n : NextAt s h r) {m : Bool} (f : m ≡ not (is_empty (element_list (elements_at s r)))) where
    amount_rest : is_amount l (element_list (elements_at s at)) ≡ is_empty (element_list (elements_at s r))
    unfolding ◌or◌
    amount_rest = amount_by l y ∙ rw (z, n.is)

    pub amount_many : m ≡ true → false ≡ is_amount l (element_list (elements_at s at))
    amount_many x = sym (amount_rest ∙ not-true (is_empty (element_list (elements_at s r))) (sym f ∙ x))

    pub amount_one : m ≡ false → true ≡ is_amount l (element_list (elements_at s at))
    amount_one x = sym (amount_rest ∙ not-false (is_empty (element_list (elements_at s r))) (sym f ∙ x))

-- ---- the first three

module _ {s : List ℕ} {inside : ℕ} {r : Three} (t : ThreeAt s inside r) where
  abbrev here : List Json
  here = element_list (elements_at s inside)

  behind_one : drop 1 here ≡ element_list (elements_at s t.second_at)
  behind_one = others_found t.first t.to_second

  behind_two : drop 2 here ≡ element_list (elements_at s t.third_at)
  behind_two = sym (drop-drop 1 1 here) ∙ ap (drop 1) behind_one ∙ others_found t.second t.to_third

  pub three_others : drop 3 here ≡ element_list (elements_at s r.next)
  three_others = sym (drop-drop 1 2 here) ∙ ap (drop 1) behind_two ∙ others_found t.third t.behind

  pub three_first : nth 0 here ≡ found s r.first
  three_first = first_found t.first

  pub three_second : nth 1 here ≡ found s r.second
  three_second = ap first_in behind_one ∙ first_found t.second

  pub three_third : nth 2 here ≡ found s r.third
  three_third = ap first_in behind_two ∙ first_found t.third

  pub three_elements : is_there r.first.kind ≡ true → is_there r.second.kind ≡ true → is_there r.third.kind ≡ true →
      elements_at s inside ≡ element (value_of_head s r.first) (element (value_of_head s r.second) (element (value_of_head s r.third) (elements_at s r.next)))
  three_elements a b c =
      element_found t.first t.to_second a
      ∙ ap (element (value_of_head s r.first)) (element_found t.second t.to_third b ∙ ap (element (value_of_head s r.second)) (element_found t.third t.behind c))

  pub three_in : ThreeIn s r
  three_in = record { first = head_in t.first; second = head_in t.second; third = head_in t.third }

pub three_at : {s : List ℕ} {inside : ℕ} {x y z : Head} {a b n : ℕ} → HeadAt s inside x → NextAt s x a → HeadAt s a y → NextAt s y b → HeadAt s b z → NextAt s z n →
    ThreeAt s inside (record { first = x; second = y; third = z; next = n })
three_at {a = a} {b} f g h i j k = record { second_at = a; third_at = b; first = f; to_second = g; second = h; to_third = i; third = j; behind = k }

-- ---- within the bytes

pub string_inside : {s : List ℕ} {h : Head} → Inside s h → {b : Bool} → b ≡ is_string h.kind → b ≡ true → h.place < length s
string_inside i e y = i.string (sym e ∙ y)

pub ruleset arrays = (head_inside, any_found, amount_none, amount_listed, amount_many, amount_one, three_at, rules)
