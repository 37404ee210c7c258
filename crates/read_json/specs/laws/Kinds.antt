-- Laws of the kinds of elements.
--     kind_none, kind_string, kind_number, kind_literal, kind_array, kind_object    what a kind is;   string_there, array_there, number_there: there is an element
--     first_by, there_by, none_by    the elements from a place on, by the kind of the first one;   taken_by: its bounds
use Rattle.std.specs.Prelude.{◌≡◌, refl, true, false, List, ℕ}
use Rattle.std.proofs.Common.{sym, ap}
use Rattle.std.proofs.lemmas.Bool.{false≢true}
use Rattle.json_text.specs.Tree.{no_elements, element, first_of}
use Rattle.read_json.specs.Pieces.{Taken}
use Rattle.read_json.specs.Heads.{value_by, behind_by, head_by, HeadTakes}
use Rattle.read_json.specs.Kinds.{is_none, is_there, is_string, is_number, is_literal, is_array, is_object}
use Rattle.read_json.specs.declared.HeadKind.{HeadKind}
use Rattle.read_json.specs.declared.HeadKind.TheVariants.{Absent, String, Number, Literal, Array, Object}

-- ---- what a kind is

pub kind_none : (k : HeadKind) → is_none k ≡ true → k ≡ Absent
kind_none Absent h = refl
kind_none String h = absurd (false≢true h)
kind_none Number h = absurd (false≢true h)
kind_none Literal h = absurd (false≢true h)
kind_none Array h = absurd (false≢true h)
kind_none Object h = absurd (false≢true h)

pub kind_string : (k : HeadKind) → is_string k ≡ true → k ≡ String
kind_string Absent h = absurd (false≢true h)
kind_string String h = refl
kind_string Number h = absurd (false≢true h)
kind_string Literal h = absurd (false≢true h)
kind_string Array h = absurd (false≢true h)
kind_string Object h = absurd (false≢true h)

pub kind_number : (k : HeadKind) → is_number k ≡ true → k ≡ Number
kind_number Absent h = absurd (false≢true h)
kind_number String h = absurd (false≢true h)
kind_number Number h = refl
kind_number Literal h = absurd (false≢true h)
kind_number Array h = absurd (false≢true h)
kind_number Object h = absurd (false≢true h)

pub kind_literal : (k : HeadKind) → is_literal k ≡ true → k ≡ Literal
kind_literal Absent h = absurd (false≢true h)
kind_literal String h = absurd (false≢true h)
kind_literal Number h = absurd (false≢true h)
kind_literal Literal h = refl
kind_literal Array h = absurd (false≢true h)
kind_literal Object h = absurd (false≢true h)

pub kind_array : (k : HeadKind) → is_array k ≡ true → k ≡ Array
kind_array Absent h = absurd (false≢true h)
kind_array String h = absurd (false≢true h)
kind_array Number h = absurd (false≢true h)
kind_array Literal h = absurd (false≢true h)
kind_array Array h = refl
kind_array Object h = absurd (false≢true h)

pub kind_object : (k : HeadKind) → is_object k ≡ true → k ≡ Object
kind_object Absent h = absurd (false≢true h)
kind_object String h = absurd (false≢true h)
kind_object Number h = absurd (false≢true h)
kind_object Literal h = absurd (false≢true h)
kind_object Array h = absurd (false≢true h)
kind_object Object h = refl

pub string_there : (k : HeadKind) → is_string k ≡ true → is_there k ≡ true
string_there k h = ap is_there (kind_string k h)

pub array_there : (k : HeadKind) → is_array k ≡ true → is_there k ≡ true
array_there k h = ap is_there (kind_array k h)

pub number_there : (k : HeadKind) → is_number k ≡ true → is_there k ≡ true
number_there k h = ap is_there (kind_number k h)

-- ---- the elements from a place on

module _ (s : List ℕ) (p n : ℕ) where
  pub first_by : (k : HeadKind) → first_of (head_by k s p n) ≡ value_by k s p n
  first_by Absent = refl
  first_by String = refl
  first_by Number = refl
  first_by Literal = refl
  first_by Array = refl
  first_by Object = refl

  pub there_by : (k : HeadKind) → is_there k ≡ true → head_by k s p n ≡ element (value_by k s p n) (behind_by k s n)
  there_by Absent h = absurd (false≢true h)
  there_by String h = refl
  there_by Number h = refl
  there_by Literal h = refl
  there_by Array h = refl
  there_by Object h = refl

  pub none_by : (k : HeadKind) → is_there k ≡ false → head_by k s p n ≡ no_elements
  none_by Absent h = refl
  none_by String h = absurd (false≢true (sym h))
  none_by Number h = absurd (false≢true (sym h))
  none_by Literal h = absurd (false≢true (sym h))
  none_by Array h = absurd (false≢true (sym h))
  none_by Object h = absurd (false≢true (sym h))

  pub taken_by : (k : HeadKind) → is_there k ≡ true → (at : ℕ) → HeadTakes k s at p n → Taken s at p n
  taken_by Absent h at t = absurd (false≢true h)
  taken_by String h at t = t
  taken_by Number h at t = t
  taken_by Literal h at t = t
  taken_by Array h at t = t
  taken_by Object h at t = t
