-- Laws of the elements of an array by places.
--     without_list, nth_first    the elements that are left, and the first of them
--     head_first                 the value of an element that was found is the first one
--     there_is, none_is          the elements from its place on;   there_less, there_spans: its bounds
--     Skipping                   the invariant of the walk over the first of them;   `search skipping`
--     string_here .. object_none  the answers of `string_at`, `array_at` and `object_at`;   `search kinds`
use Rattle.std.specs.Prelude.{◌≡◌, refl, Bool, true, false, List, [], ◌∷◌, ℕ, zero, suc, ◌+◌, ◌-◌, ◌*◌, ◌≤◌, ◌<◌, length, drop, Option, None, Some}
use Rattle.std.proofs.Math.Path.{sym, ap}
use Rattle.std.proofs.Common.{◌∙◌, arith, drop_of_length-le, rules}
use Rattle.std.proofs.lemmas.Bool.{false≢true}
use Rattle.octets.specs.Reading.{and_then, read_or}
use Rattle.source.specs.Source.{rest}
use Rattle.source.specs.laws.Quoted.{rest_quoted}
use Rattle.json_text.specs.Strings.{characters, characters_from}
use Rattle.json_text.specs.Tree.{Json, string, number, literal, array, object, Elements, no_elements, element, Members, no_members, first_of, element_list}
use Rattle.json_text.specs.Kinds.{as_string, as_array, as_object, nth}
use Rattle.jcal.specs.Components.{stream_in}
use Rattle.read_json.specs.TreeAt.{elements_at, members_at, string_at}
use Rattle.read_json.specs.laws.TreeAt.{elements_past, members_past}
use Rattle.read_json.specs.Pieces.{Taken}
use Rattle.read_json.specs.Heads.{value_by, value_of_head, behind_by, head_by, HeadAt, NextAt}
use Rattle.read_json.specs.Kinds.{is_there, is_string, is_array, is_object}
use Rattle.read_json.specs.laws.Kinds.{string_there, first_by, there_by, none_by, taken_by}
use Rattle.read_json.specs.declared.Head.{Head}
use Rattle.read_json.specs.declared.HeadKind.{HeadKind}
use Rattle.read_json.specs.declared.HeadKind.TheVariants.{Absent, String, Number, Literal, Array, Object}
use Rattle.write_text_jcal_values.specs.Elements.{list_at, without, characters_in, members_in}

-- ---- lists

without_none : (k : ℕ) → without k no_elements ≡ no_elements
unfolding without
without_none zero = refl
without_none (suc k) = refl

pub without_list : (k : ℕ) (es : Elements) → drop k (element_list es) ≡ element_list (without k es)
unfolding without element_list
without_list zero es = refl
without_list (suc k) no_elements = refl
without_list (suc k) (element v vs) = without_list k vs

first_list : {A : Type 0} (f : Json → Option A) → f (literal 0 []) ≡ None → (es : Elements) → and_then (nth 0 (element_list es)) f ≡ f (first_of es)
unfolding element_list and_then
first_list f h no_elements = sym h
first_list f h (element v vs) = refl

-- what is read of an element, of a null that stands for one that is not there nothing
pub nth_first : {A : Type 0} (f : Json → Option A) → f (literal 0 []) ≡ None → (k : ℕ) (es : Elements) → and_then (nth k (element_list es)) f ≡ f (first_of (without k es))
nth_first f h k es = ap (λ (l : List Json). and_then (nth 0 l) f) (without_list k es) ∙ first_list f h (without k es)

-- ---- by the kind of an element

behind_of : (k : HeadKind) (s : List ℕ) (p n c : ℕ) → without (suc c) (head_by k s p n) ≡ without c (behind_by k s n)
unfolding without
behind_of Absent s p n c = sym (without_none c)
behind_of String s p n c = refl
behind_of Number s p n c = refl
behind_of Literal s p n c = refl
behind_of Array s p n c = refl
behind_of Object s p n c = refl

string_of : (k : HeadKind) (s : List ℕ) (p n : ℕ) → is_string k ≡ true → read_or [] (as_string (value_by k s p n)) ≡ string_at s p
unfolding read_or
string_of Absent s p n q = absurd (false≢true q)
string_of String s p n q = refl
string_of Number s p n q = absurd (false≢true q)
string_of Literal s p n q = absurd (false≢true q)
string_of Array s p n q = absurd (false≢true q)
string_of Object s p n q = absurd (false≢true q)

string_other : (k : HeadKind) (s : List ℕ) (p n : ℕ) → is_string k ≡ false → read_or [] (as_string (value_by k s p n)) ≡ []
unfolding read_or
string_other Absent s p n q = refl
string_other String s p n q = absurd (false≢true (sym q))
string_other Number s p n q = refl
string_other Literal s p n q = refl
string_other Array s p n q = refl
string_other Object s p n q = refl

array_of : (k : HeadKind) (s : List ℕ) (p n : ℕ) → is_array k ≡ true → stream_in (value_by k s p n) ≡ elements_at s n
array_of Absent s p n q = absurd (false≢true q)
array_of String s p n q = absurd (false≢true q)
array_of Number s p n q = absurd (false≢true q)
array_of Literal s p n q = absurd (false≢true q)
array_of Array s p n q = refl
array_of Object s p n q = absurd (false≢true q)

array_other : (k : HeadKind) (s : List ℕ) (p n : ℕ) → is_array k ≡ false → stream_in (value_by k s p n) ≡ no_elements
array_other Absent s p n q = refl
array_other String s p n q = refl
array_other Number s p n q = refl
array_other Literal s p n q = refl
array_other Array s p n q = absurd (false≢true (sym q))
array_other Object s p n q = refl

object_of : (k : HeadKind) (s : List ℕ) (p n : ℕ) → is_object k ≡ true → members_in (value_by k s p n) ≡ members_at s n
object_of Absent s p n q = absurd (false≢true q)
object_of String s p n q = absurd (false≢true q)
object_of Number s p n q = absurd (false≢true q)
object_of Literal s p n q = absurd (false≢true q)
object_of Array s p n q = absurd (false≢true q)
object_of Object s p n q = refl

object_other : (k : HeadKind) (s : List ℕ) (p n : ℕ) → is_object k ≡ false → members_in (value_by k s p n) ≡ no_members
object_other Absent s p n q = refl
object_other String s p n q = refl
object_other Number s p n q = refl
object_other Literal s p n q = refl
object_other Array s p n q = refl
object_other Object s p n q = absurd (false≢true (sym q))

-- ---- by what was found

-- no characters from the end on
characters_past : (s : List ℕ) → rest 3 s (2 * length s) ≡ []
unfolding characters_from
characters_past s = let h : length s ≤ length s = omega arith in rest_quoted s (length s) ∙ ap characters (drop_of_length-le s h)

-- where an element stands that was found
pub record Spans (s : List ℕ) (h : Head) : Type 0 where
  pub begins : h.place < h.next
  pub inside : h.next ≤ length s

-- where a string stands, if it is one
pub record Strung (s : List ℕ) (h : Head) : Type 0 where
  pub place : is_string h.kind ≡ true → h.place < length s
  pub inside : h.next ≤ length s

module _ {s : List ℕ} {at : ℕ} {h : Head} (t : HeadAt s at h) where
  pub head_first : value_of_head s h ≡ first_of (elements_at s at)
  head_first = sym (first_by s h.place h.next h.kind) ∙ ap (λ (es : Elements). first_of es) (sym t.is)

  head_without : {r : ℕ} → NextAt s h r → (c : ℕ) → without (suc c) (elements_at s at) ≡ without c (elements_at s r)
  head_without n c = ap (without (suc c)) t.is ∙ behind_of h.kind s h.place h.next c ∙ ap (without c) n.is

  module _ {b : Bool} (e : b ≡ is_there h.kind) where
    pub none_is : b ≡ false → elements_at s at ≡ no_elements
    none_is q = t.is ∙ none_by s h.place h.next h.kind (sym e ∙ q)

    taken : b ≡ true → Taken s at h.place h.next
    taken q = taken_by s h.place h.next h.kind (sym e ∙ q) at t.takes

    pub there_spans : b ≡ true → Spans s h
    there_spans q = let k = taken q in record { begins = k.some; inside = t.inside }

    module _ {r : ℕ} (n : NextAt s h r) where
      pub there_is : b ≡ true → elements_at s at ≡ element (value_of_head s h) (elements_at s r)
      there_is q = t.is ∙ there_by s h.place h.next h.kind (sym e ∙ q) ∙ ap (element (value_of_head s h)) n.is

      pub there_list : b ≡ true → list_at s at ≡ value_of_head s h ∷ list_at s r
      unfolding element_list
      there_list q = ap element_list (there_is q)

      pub there_less : b ≡ true → length s - r < length s - at
      there_less q = let k = taken q in omega (arith, k.onward, k.some, k.inside, n.onward, n.inside)

  -- the elements and the list, whatever stands behind
  pub there_behind : {b : Bool} → b ≡ is_there h.kind → b ≡ true → (es : Elements) × (elements_at s at ≡ element (value_of_head s h) es)
  there_behind e q = (behind_by h.kind s h.next, t.is ∙ there_by s h.place h.next h.kind (sym e ∙ q))

  pub there_of_list : {b : Bool} → b ≡ is_there h.kind → b ≡ true → (l : List Json) × (list_at s at ≡ value_of_head s h ∷ l)
  unfolding element_list
  there_of_list e q =
      (element_list (behind_by h.kind s h.next), ap element_list (t.is ∙ there_by s h.place h.next h.kind (sym e ∙ q)))

  pub none_list : {b : Bool} → b ≡ is_there h.kind → b ≡ false → list_at s at ≡ []
  unfolding element_list
  none_list e q = ap element_list (none_is e q)

  pub head_strung : Strung s h
  head_strung = record {
    place = λ q. let k = taken_by s h.place h.next h.kind (string_there h.kind q) at t.takes in omega (arith, k.some, k.inside);
    inside = t.inside;
  }

  module _ {b : Bool} (e : b ≡ is_string h.kind) where
    pub string_here : b ≡ true → rest 3 s (2 * (h.place + 1)) ≡ characters_in (elements_at s at)
    string_here q = sym (string_of h.kind s h.place h.next (sym e ∙ q)) ∙ ap (λ (v : Json). read_or [] (as_string v)) head_first

    pub string_none : b ≡ false → rest 3 s (2 * length s) ≡ characters_in (elements_at s at)
    string_none q = characters_past s ∙ sym (string_other h.kind s h.place h.next (sym e ∙ q)) ∙ ap (λ (v : Json). read_or [] (as_string v)) head_first

    pub string_place : b ≡ true → h.place < length s
    string_place q = head_strung.place (sym e ∙ q)

  module _ {b : Bool} (e : b ≡ is_array h.kind) where
    pub array_here : b ≡ true → elements_at s h.next ≡ stream_in (first_of (elements_at s at))
    array_here q = sym (array_of h.kind s h.place h.next (sym e ∙ q)) ∙ ap (λ (v : Json). stream_in v) head_first

    pub array_none : b ≡ false → elements_at s (length s) ≡ stream_in (first_of (elements_at s at))
    array_none q = elements_past s (length s) (omega arith) ∙ sym (array_other h.kind s h.place h.next (sym e ∙ q)) ∙ ap (λ (v : Json). stream_in v) head_first

  module _ {b : Bool} (e : b ≡ is_object h.kind) where
    pub object_here : b ≡ true → members_at s h.next ≡ members_in (first_of (elements_at s at))
    object_here q = sym (object_of h.kind s h.place h.next (sym e ∙ q)) ∙ ap (λ (v : Json). members_in v) head_first

    pub object_none : b ≡ false → members_at s (length s) ≡ members_in (first_of (elements_at s at))
    object_none q = members_past s (length s) (omega arith) ∙ sym (object_other h.kind s h.place h.next (sym e ∙ q)) ∙ ap (λ (v : Json). members_in v) head_first

pub ruleset kinds = (string_here, string_none, array_here, array_none, object_here, object_none, rules)

-- ---- the first of them passed over

pub record Skipping (s : List ℕ) (from k at i : ℕ) : Type 0 where
  pub most : i ≤ k
  pub left : without k (elements_at s from) ≡ without (k - i) (elements_at s at)

pub skip_start : (s : List ℕ) (from k : ℕ) → Skipping s from k from 0
skip_start s from k = let e : k ≡ k - 0 = omega arith in record { most = omega arith; left = ap (λ (c : ℕ). without c (elements_at s from)) e }

module _ {s : List ℕ} {from k at i : ℕ} (w : Skipping s from k at i) where
  pub skip_more : i < k → {h : Head} → HeadAt s at h → {r : ℕ} → NextAt s h r → Skipping s from k r (i + 1)
  skip_more l t n =
      let e : k - i ≡ suc (k - (i + 1)) = omega arith in
      record { most = omega arith; left = w.left ∙ ap (λ (c : ℕ). without c (elements_at s at)) e ∙ head_without t n (k - (i + 1)) }

  pub skip_end : k ≤ i → elements_at s at ≡ without k (elements_at s from)
  unfolding without
  skip_end l = let e : k - i ≡ 0 = omega (arith, w.most) in sym (w.left ∙ ap (λ (c : ℕ). without c (elements_at s at)) e)

pub ruleset skipping = (skip_start, skip_more, skip_end, rules)
