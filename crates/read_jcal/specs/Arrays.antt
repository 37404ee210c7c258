-- The elements of an array, by what is found of them.
--     found        the element that was found;   place_in: its place; 0 where there is none
--     Inside       it stands within the bytes
--     ThreeAt      the contract of `first_three`: the first three elements, and the place behind them
--     ThreeIn      they stand within the bytes
--     name_found, object_found, type_found, array_found  the first three as the elements of a property or a component
use Rattle.std.specs.Prelude.{◌≡◌, true, List, ℕ, ◌≤◌, ◌<◌, length, Option, None, Some}
use Rattle.octets.specs.Pick.{pick}
use Rattle.octets.specs.Reading.{and_then}
use Rattle.calendar.specs.Calendar.{ValueType}
use Rattle.json_text.specs.Tree.{Json, Member}
use Rattle.json_text.specs.Kinds.{as_string, as_array, as_object}
use Rattle.jcal.specs.Property.{type_of}
use Rattle.read_json.specs.Heads.{value_by, HeadAt, NextAt}
use Rattle.read_json.specs.Kinds.{is_there, is_string}
use Rattle.read_json.specs.declared.Head.{Head}
use Rattle.read_json.specs.declared.HeadKind.{HeadKind}
use Rattle.read_json.specs.declared.HeadKind.TheVariants.{Absent, String, Number, Literal, Array, Object}
use Rattle.read_jcal.specs.declared.Three.{Three}

abbrev pub found_by : HeadKind → List ℕ → ℕ → ℕ → Option Json
found_by Absent s p n = None
found_by String s p n = Some (value_by String s p n)
found_by Number s p n = Some (value_by Number s p n)
found_by Literal s p n = Some (value_by Literal s p n)
found_by Array s p n = Some (value_by Array s p n)
found_by Object s p n = Some (value_by Object s p n)

abbrev pub found : List ℕ → Head → Option Json
found s h = found_by h.kind s h.place h.next

abbrev pub place_in : Head → ℕ
place_in h = pick (is_there h.kind) h.place 0

pub record Inside (s : List ℕ) (h : Head) : Type 0 where
  pub next : h.next ≤ length s
  pub string : is_string h.kind ≡ true → h.place < length s

-- ---- the first three

pub record ThreeAt (s : List ℕ) (inside : ℕ) (r : Three) : Type 0 where
  pub second_at : ℕ
  pub third_at : ℕ
  pub first : HeadAt s inside r.first
  pub to_second : NextAt s r.first second_at
  pub second : HeadAt s second_at r.second
  pub to_third : NextAt s r.second third_at
  pub third : HeadAt s third_at r.third
  pub behind : NextAt s r.third r.next

pub record ThreeIn (s : List ℕ) (r : Three) : Type 0 where
  pub first : Inside s r.first
  pub second : Inside s r.second
  pub third : Inside s r.third

abbrev pub name_found : List ℕ → Head → Option (List ℕ)
name_found s h = and_then (found s h) as_string

abbrev pub object_found : List ℕ → Head → Option (List Member)
object_found s h = and_then (found s h) as_object

abbrev pub type_found : List ℕ → Head → Option ValueType
type_found s h = and_then (name_found s h) type_of

abbrev pub array_found : List ℕ → Head → Option (List Json)
array_found s h = and_then (found s h) as_array
