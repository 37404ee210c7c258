-- Laws of what specs/Elements.antt defines.
--     stands_head         an element that was found has its bounds
--     list_over, list_here, list_more, list_less    the elements from a place on, by the first one;   first_value: the first one
--     ends, leafing       the rules of `is_end` and `leaf_at`;   first_at, first_other, first_place, first_end: what `leaf_at` says
--     kinds               what an element is, by its kind
--     Each                the invariant of a loop over elements that each pass a test;   `search eaching`
use Rattle.std.specs.Prelude.{◌≡◌, Bool, List, [], ◌∷◌, ℕ, ◌-◌, ◌≤◌, ◌<◌, length, Option, None, Some}
use Rattle.std.proofs.Math.Path.{refl, sym, ap}
use Rattle.std.proofs.Common.{subst, ◌∙◌, arith, rules}
use Rattle.std.proofs.Math.Bool.{true, false}
use Rattle.std.proofs.lemmas.Bool.{false≢true}
use Rattle.octets.specs.Pick.{pick, ◌and◌}
use Rattle.octets.specs.Words.{is_empty}
use Rattle.octets.specs.Lists.{every}
use Rattle.octets.specs.Reading.{and_then, is_read}
use Rattle.json_text.specs.Tree.{Json, Elements, Member, first_of, element_list, member_list}
use Rattle.json_text.specs.Kinds.{as_string, as_number, as_literal, as_array, as_object}
use Rattle.read_json.specs.TreeAt.{elements_at, members_at, string_at, word_at}
use Rattle.read_json.specs.Heads.{value_by, value_of_head, behind_by, head_by, HeadAt, NextAt}
use Rattle.read_json.specs.Kinds.{is_none, is_there, is_string, is_number, is_literal, is_array, is_object}
use Rattle.read_json.specs.laws.Kinds.{kind_string, kind_number, kind_literal, first_by, there_by, none_by, taken_by}
use Rattle.read_json.specs.laws.Kinds as K
use Rattle.read_json.specs.declared.Head.{Head}
use Rattle.read_json.specs.declared.HeadKind.{HeadKind}
use Rattle.read_json.specs.declared.HeadKind.TheVariants.{Absent, String, Number, Literal, Array, Object}
use Rattle.read_jcal_value.specs.Elements.{Stands, string_of, number_of, literal_of, array_of, object_of, is_leaf, leaf_of, leaf_text, first_text, FirstAt}
use Rattle.read_jcal_value.specs.declared.elements.Leaf.{Leaf}

-- ---- by the kind

module _ (s : List ℕ) (p n : ℕ) where
  string_by : (k : HeadKind) → as_string (value_by k s p n) ≡ pick (is_string k) (Some (string_at s p)) None
  unfolding pick
  string_by Absent = refl
  string_by String = refl
  string_by Number = refl
  string_by Literal = refl
  string_by Array = refl
  string_by Object = refl

  number_by : (k : HeadKind) → as_number (value_by k s p n) ≡ pick (is_number k) (Some (word_at s p n)) None
  unfolding pick
  number_by Absent = refl
  number_by String = refl
  number_by Number = refl
  number_by Literal = refl
  number_by Array = refl
  number_by Object = refl

  pub array_by : (k : HeadKind) → as_array (value_by k s p n) ≡ pick (is_array k) (Some (element_list (elements_at s n))) None
  unfolding pick
  array_by Absent = refl
  array_by String = refl
  array_by Number = refl
  array_by Literal = refl
  array_by Array = refl
  array_by Object = refl

  object_by : (k : HeadKind) → as_object (value_by k s p n) ≡ pick (is_object k) (Some (member_list (members_at s n))) None
  unfolding pick
  object_by Absent = refl
  object_by String = refl
  object_by Number = refl
  object_by Literal = refl
  object_by Array = refl
  object_by Object = refl

  -- without an element there is a literal of no bytes
  literal_by : (k : HeadKind) → is_there k ≡ true → as_literal (value_by k s p n) ≡ pick (is_literal k) (Some (word_at s p n)) None
  unfolding pick
  literal_by Absent h = absurd (false≢true h)
  literal_by String h = refl
  literal_by Number h = refl
  literal_by Literal h = refl
  literal_by Array h = refl
  literal_by Object h = refl

  literal_none : (k : HeadKind) → is_there k ≡ false → as_literal (value_by k s p n) ≡ Some []
  literal_none Absent h = refl
  literal_none String h = absurd (false≢true (sym h))
  literal_none Number h = absurd (false≢true (sym h))
  literal_none Literal h = absurd (false≢true (sym h))
  literal_none Array h = absurd (false≢true (sym h))
  literal_none Object h = absurd (false≢true (sym h))

  leaf_by : (b : Bool) (k : HeadKind) → is_leaf b k ≡ true → value_by k s p n ≡ leaf_of b s p n
  leaf_by true k h = ap (λ (x : HeadKind). value_by x s p n) (kind_number k h)
  leaf_by false k h = ap (λ (x : HeadKind). value_by x s p n) (kind_string k h)

  leaf_behind : (b : Bool) (k : HeadKind) → is_leaf b k ≡ true → behind_by k s n ≡ elements_at s n
  leaf_behind true k h = ap (λ (x : HeadKind). behind_by x s n) (kind_number k h)
  leaf_behind false k h = ap (λ (x : HeadKind). behind_by x s n) (kind_string k h)

  text_by : (b : Bool) (k : HeadKind) → is_leaf b k ≡ false → leaf_text b (value_by k s p n) ≡ None
  unfolding pick
  text_by true k h = number_by k ∙ rw h
  text_by false k h = string_by k ∙ rw h

leaf_there : (b : Bool) (k : HeadKind) → is_leaf b k ≡ true → is_there k ≡ true
leaf_there true k h = K.number_there k h
leaf_there false k h = K.string_there k h

literal_there_by : (k : HeadKind) → is_literal k ≡ true → is_there k ≡ true
literal_there_by k h = ap is_there (kind_literal k h)

-- ---- an element that was found

module _ {s : List ℕ} {at : ℕ} {h : Head} (t : HeadAt s at h) where
  pub stands_head : Stands s h
  stands_head = record { place = λ e. (taken_by s h.place h.next h.kind e at t.takes).some; inside = t.inside }

  pub first_value : first_of (elements_at s at) ≡ value_of_head s h
  first_value = ap first_of t.is ∙ first_by s h.place h.next h.kind

  -- that there is none
  pub end_is : {b : Bool} → b ≡ is_none h.kind → b ≡ is_empty (element_list (elements_at s at))
  unfolding element_list
  end_is {b} e = go h.kind e t.is
    where
      go : (k : HeadKind) → b ≡ is_none k → elements_at s at ≡ head_by k s h.place h.next → b ≡ is_empty (element_list (elements_at s at))
      go Absent q d = rw (d, q)
      go String q d = rw (d, q)
      go Number q d = rw (d, q)
      go Literal q d = rw (d, q)
      go Array q d = rw (d, q)
      go Object q d = rw (d, q)

  module _ {c : Bool} (e : c ≡ is_there h.kind) where
    pub list_over : c ≡ false → element_list (elements_at s at) ≡ []
    unfolding element_list
    list_over z = ap element_list (t.is ∙ none_by s h.place h.next h.kind (sym e ∙ z))

    pub list_here : c ≡ true → element_list (elements_at s at) ≡ value_of_head s h ∷ element_list (behind_by h.kind s h.next)
    unfolding element_list
    list_here z = ap element_list (t.is ∙ there_by s h.place h.next h.kind (sym e ∙ z))

    module _ (z : c ≡ true) {r : ℕ} (n : NextAt s h r) where
      pub list_more : element_list (elements_at s at) ≡ value_of_head s h ∷ element_list (elements_at s r)
      unfolding element_list
      list_more = list_here z ∙ ap (λ (es : Elements). value_of_head s h ∷ element_list es) n.is

      pub list_less : length s - r < length s - at
      list_less = let k = taken_by s h.place h.next h.kind (sym e ∙ z) at t.takes in omega (arith, k.onward, k.some, k.inside, n.onward, n.inside)

  -- a leaf, or not
  module _ (b : Bool) {c : Bool} (e : c ≡ is_leaf b h.kind) where
    pub leaf_here : c ≡ true → FirstAt b s at (Some (record { place = h.place; next = h.next }))
    unfolding element_list
    leaf_here z =
        let q : is_leaf b h.kind ≡ true = sym e ∙ z in
        let y : is_there h.kind ≡ true = leaf_there b h.kind q in
        let k = taken_by s h.place h.next h.kind y at t.takes in
        record {
          says = (
            ap element_list (t.is ∙ there_by s h.place h.next h.kind y)
                ∙ ap (λ (v : Json). v ∷ element_list (behind_by h.kind s h.next)) (leaf_by s h.place h.next b h.kind q)
                ∙ ap (λ (es : Elements). leaf_of b s h.place h.next ∷ element_list es) (leaf_behind s h.place h.next b h.kind q),
            k.some,
            k.inside,
          );
        }

    pub leaf_none : c ≡ false → FirstAt b s at None
    unfolding element_list
    leaf_none z = record { says = go h.kind (sym e ∙ z) t.is }
      where
        go : (k : HeadKind) → is_leaf b k ≡ false → elements_at s at ≡ head_by k s h.place h.next → first_text b (element_list (elements_at s at)) ≡ None
        go Absent q y = rw y
        go String q y = rw y (text_by s h.place h.next b String q)
        go Number q y = rw y (text_by s h.place h.next b Number q)
        go Literal q y = rw y (text_by s h.place h.next b Literal q)
        go Array q y = rw y (text_by s h.place h.next b Array q)
        go Object q y = rw y (text_by s h.place h.next b Object q)

pub ruleset ends = (end_is, rules)

pub ruleset leafing = (leaf_here, leaf_none, rules)

-- ---- what `leaf_at` says

pub first_other : {k : Bool} {s : List ℕ} {at : ℕ} → FirstAt k s at None → first_text k (element_list (elements_at s at)) ≡ None
first_other f = f.says

module _ {k : Bool} {s : List ℕ} {at : ℕ} {l : Leaf} (f : FirstAt k s at (Some l)) where
  pub first_at : element_list (elements_at s at) ≡ leaf_of k s l.place l.next ∷ element_list (elements_at s l.next)
  first_at = f.says.0

  pub first_place : l.place < length s
  first_place = omega (arith, f.says.1, f.says.2)

  pub first_end : l.next ≤ length s
  first_end = f.says.2

-- ---- what an element is

pub stands_place : {s : List ℕ} {h : Head} → Stands s h → {c : Bool} → c ≡ is_string h.kind → c ≡ true → h.place < length s
stands_place {s} {h} t e q = let k = t.place (K.string_there h.kind (sym e ∙ q)) in omega (arith, k, t.inside)

pub stands_order : {s : List ℕ} {h : Head} → Stands s h → {c : Bool} → c ≡ is_number h.kind → c ≡ true → h.place ≤ h.next
stands_order {s} {h} t e q = let k = t.place (K.number_there h.kind (sym e ∙ q)) in omega (arith, k)

module _ {B : Type 0} (s : List ℕ) (h : Head) {c : Bool} where
  module _ (e : c ≡ is_string h.kind) (f : List ℕ → Option B) where
    pub string_there : {r : Bool} → c ≡ true → r ≡ is_read (f (string_at s h.place)) → r ≡ is_read (and_then (string_of s h) f)
    unfolding string_of and_then pick
    string_there q g = rw (string_by s h.place h.next h.kind, ← e, q) g

    pub string_missing : c ≡ false → false ≡ is_read (and_then (string_of s h) f)
    unfolding string_of and_then pick is_read
    string_missing q = rw (string_by s h.place h.next h.kind, ← e, q)

  module _ (e : c ≡ is_number h.kind) (f : List ℕ → Option B) where
    pub number_there : {r : Bool} → c ≡ true → r ≡ is_read (f (word_at s h.place h.next)) → r ≡ is_read (and_then (number_of s h) f)
    unfolding number_of and_then pick
    number_there q g = rw (number_by s h.place h.next h.kind, ← e, q) g

    pub number_missing : c ≡ false → false ≡ is_read (and_then (number_of s h) f)
    unfolding number_of and_then pick is_read
    number_missing q = rw (number_by s h.place h.next h.kind, ← e, q)

  module _ (e : c ≡ is_array h.kind) (f : List Json → Option B) where
    pub array_there : {r : Bool} → c ≡ true → r ≡ is_read (f (element_list (elements_at s h.next))) → r ≡ is_read (and_then (array_of s h) f)
    unfolding array_of and_then pick
    array_there q g = rw (array_by s h.place h.next h.kind, ← e, q) g

    pub array_missing : c ≡ false → false ≡ is_read (and_then (array_of s h) f)
    unfolding array_of and_then pick is_read
    array_missing q = rw (array_by s h.place h.next h.kind, ← e, q)

  module _ (e : c ≡ is_object h.kind) (f : List Member → Option B) where
    pub object_there : {r : Bool} → c ≡ true → r ≡ is_read (f (member_list (members_at s h.next))) → r ≡ is_read (and_then (object_of s h) f)
    unfolding object_of and_then pick
    object_there q g = rw (object_by s h.place h.next h.kind, ← e, q) g

    pub object_missing : c ≡ false → false ≡ is_read (and_then (object_of s h) f)
    unfolding object_of and_then pick is_read
    object_missing q = rw (object_by s h.place h.next h.kind, ← e, q)

  module _ (e : c ≡ is_literal h.kind) (f : List ℕ → Option B) where
    pub literal_there : {r : Bool} → c ≡ true → r ≡ is_read (f (word_at s h.place h.next)) → r ≡ is_read (and_then (literal_of s h) f)
    unfolding literal_of and_then pick
    literal_there q g = rw (literal_by s h.place h.next h.kind (literal_there_by h.kind (sym e ∙ q)), ← e, q) g

    pub literal_missing : is_read (f []) ≡ false → c ≡ false → false ≡ is_read (and_then (literal_of s h) f)
    unfolding literal_of and_then pick is_read
    literal_missing k q = go (is_there h.kind) refl
      where
        go : (b : Bool) → is_there h.kind ≡ b → false ≡ is_read (and_then (as_literal (value_of_head s h)) f)
        go false z = rw (literal_none s h.place h.next h.kind z) (sym k)
        go true z = rw (literal_by s h.place h.next h.kind z, ← e, q)

pub ruleset kinds = (
  stands_place,
  stands_order,
  string_there,
  string_missing,
  number_there,
  number_missing,
  literal_there,
  literal_missing,
  array_there,
  array_missing,
  object_there,
  object_missing,
  rules,
)

-- ---- each element passes a test

pub record Each (f : Json → Bool) (s : List ℕ) (from c : ℕ) : Type 0 where
  pub left : every f (element_list (elements_at s from)) ≡ every f (element_list (elements_at s c))

pub each_start : (f : Json → Bool) (s : List ℕ) (from : ℕ) → Each f s from from
each_start f s from = record { left = refl }

module _ {f : Json → Bool} {s : List ℕ} {from c : ℕ} (w : Each f s from c) {h : Head} (t : HeadAt s c h) {k : Bool} (e : k ≡ is_there h.kind) where
  pub each_end : k ≡ false → true ≡ every f (element_list (elements_at s from))
  unfolding every
  each_end z = sym (w.left ∙ rw (list_over t e z))

  module _ (z : k ≡ true) {b : Bool} (q : b ≡ f (value_of_head s h)) where
    pub each_more : {n : ℕ} → NextAt s h n → b ≡ true → Each f s from n
    unfolding every ◌and◌
    each_more d y = record { left = w.left ∙ rw (list_more t e z d, ← q, y) }

    pub each_bad : b ≡ false → false ≡ every f (element_list (elements_at s from))
    unfolding every ◌and◌
    each_bad y = sym (w.left ∙ rw (list_here t e z, ← q, y))

pub ruleset eaching = (each_start, each_end, each_more, each_bad, list_less, stands_head, rules)
