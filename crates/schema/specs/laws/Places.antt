-- The number of the name of a number, and of the type of one.
--     known_component, component_at_lem  the name of a component's number below 9 is known, and has that number
--     known_property, property_at_lem    the same of a property's below 46
--     no_component_lem, no_property      the number of no bytes, which is the name of a greater number
--     component_fixed, property_fixed    the number of the name of a name's number
--     type_back, type_known              the number of the type of a number; it is 14 at most
--     type_word                          a name compared with a type's element
use Rattle.std.specs.Prelude.{◌≡◌, refl, true, List, [], map, ℕ, ◌≤◌, ◌<◌, eqb, leb, get_or}
use Rattle.std.proofs.Common.{sym, ap, ◌∙◌, arith, leb-true, eqb-true}
use Rattle.std.proofs.Math.Decide.{dec_le}
use Rattle.std.proofs.Math.ListN.{get_or-eq_default}
use Rattle.octets.specs.Class.{lower}
use Rattle.octets.specs.Words.{same, is_one_of}
use Rattle.octets.specs.Computing.{octets_compute}
use Rattle.names.specs.Table.{place_of}
use Rattle.names.specs.laws.Places.{same_place, one_at, place_back, place_again}
use Rattle.calendar.specs.Calendar.{ValueType, UNKNOWN}
use Rattle.schema.specs.Types.{type_name, value_types, type_place}
use Rattle.schema.specs.laws.Types.{type_passes}
use Rattle.schema.specs.Components.{component_names}
use Rattle.schema.specs.Properties.{property_names}
use Rattle.schema.specs.Numbers.{type_words, type_at, component_name, property_name}
use Rattle.schema.specs.Cells.{tabled}
use Rattle.schema.specs.laws.Cells.{tabled_at, column_at}

-- ---- names

pub known_component : (k : ℕ) → k < 9 → is_one_of (component_name k) component_names ≡ true
known_component k h = one_at component_names k h

pub component_at_lem : (k : ℕ) → k < 9 → place_of (component_name k) component_names ≡ k
unfolding octets_compute
component_at_lem k h = place_back component_names k refl h

pub no_component_lem : place_of [] component_names ≡ 9
unfolding octets_compute place_of
no_component_lem = refl

pub component_fixed : (w : List ℕ) → place_of (component_name (place_of w component_names)) component_names ≡ place_of w component_names
unfolding octets_compute
component_fixed w = place_again w component_names refl no_component_lem

pub known_property : (n : ℕ) → n < 46 → is_one_of (property_name n) property_names ≡ true
known_property n h = one_at property_names n h

pub property_at_lem : (n : ℕ) → n < 46 → place_of (property_name n) property_names ≡ n
unfolding octets_compute
property_at_lem n h = place_back property_names n refl h

pub no_property : place_of [] property_names ≡ 46
unfolding octets_compute place_of
no_property = refl

pub property_fixed : (w : List ℕ) → place_of (property_name (place_of w property_names)) property_names ≡ place_of w property_names
unfolding octets_compute
property_fixed w = place_again w property_names refl no_property

-- ---- types

types_placed : map type_place value_types ≡ tabled (λ i. i) 0 14
unfolding tabled
types_placed = refl

pub type_back : (t : ℕ) → t ≤ 14 → type_place (type_at t) ≡ t
type_back t h = go (dec_le 14 t)
  where
    go : Dec (14 ≤ t) → type_place (type_at t) ≡ t
    go (yes k) = rw (get_or-eq_default value_types UNKNOWN k) (omega arith)
    go (no k) =
        let l : t < 14 = omega (arith, k) in
        sym (column_at type_place UNKNOWN value_types t l) ∙ ap (λ (l : List ℕ). get_or l t 0) types_placed ∙ tabled_at (λ i. i) 14 0 t l ∙ omega arith

pub type_known : (t : ValueType) → type_place t ≤ 14
unfolding octets_compute
type_known t = leb-true _ _ (type_passes (λ u. leb (type_place u) 14) refl t)

-- ---- their elements

pub word_known : (t : ValueType) → is_one_of (lower (type_name t)) type_words ≡ true
unfolding octets_compute
word_known t = type_passes (λ u. is_one_of (lower (type_name u)) type_words) refl t

word_placed : (t : ValueType) → place_of (lower (type_name t)) type_words ≡ type_place t
unfolding octets_compute place_of
word_placed t = eqb-true _ _ (type_passes (λ u. eqb (place_of (lower (type_name u)) type_words) (type_place u)) refl t)

pub type_word : (l : List ℕ) (t : ValueType) → same l (lower (type_name t)) ≡ eqb (place_of l type_words) (type_place t)
type_word l t = same_place l (lower (type_name t)) type_words (word_known t) ∙ ap (eqb (place_of l type_words)) (word_placed t)
