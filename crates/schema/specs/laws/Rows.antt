-- Laws of the tables of components, properties and parameters, each by computing over the rows.
--     known_property_passes, known_parameter_passes, known_component_passes   what every name of the table passes, a known name passes
--     unrecognised_property_lem, unrecognised_parameter_lem  what a name of no row has
--     property_name_lem.., parameter_name_lem.., component_name_lem..  names are made of name characters, in capitals
--     parameter_types, parameter_type_lem  the types of parameters
--     stand_known, subcomponents_known     what may stand in a component is known
use Rattle.std.specs.Prelude.{◌≡◌, refl, Bool, true, false, not, List, [], ◌∷◌, map, ℕ, eqb, ltb, length, get_or}
use Rattle.std.proofs.Common.{sym}
use Rattle.std.proofs.lemmas.Bool.{false≢true, not-true}
use Rattle.octets.specs.Pick.{pick, ◌and◌, ◌or◌}
use Rattle.octets.specs.laws.Pick.{pick_either, and_no_left, and_no_right, and_both}
use Rattle.octets.specs.Scan.{all_of}
use Rattle.octets.specs.Append.{◌⊕◌}
use Rattle.octets.specs.Class.{is_name_char, upper, lower}
use Rattle.octets.specs.Words.{same, is_one_of}
use Rattle.octets.specs.laws.Words.{same_true}
use Rattle.octets.specs.laws.Tables.{row_any_passes, row_known_passes, row_none}
use Rattle.octets.specs.Lists.{every}
use Rattle.octets.specs.laws.Lists.{every_both, word_passes}
use Rattle.octets.specs.Reading.{read_or}
use Rattle.octets.specs.Computing.{octets_compute}
use Rattle.calendar.specs.Calendar.{ValueType, BOOLEAN, CAL-ADDRESS, TEXT, URI, UNKNOWN}
use Rattle.schema.specs.Types.{same_type, is_type_of}
use Rattle.schema.specs.laws.Types.{same_type_self, type_any}
use Rattle.schema.specs.Parameters.{parameter_table, parameter_row, parameter_names, is_known_parameter, unrecognised_parameter, parameter_type, is_quoted_parameter}
use Rattle.schema.specs.Components.{Occurrence, signed, standing, list_in, component_table, component_row, component_names, subcomponents_of, standing_in, is_alarm, may_stand, unknown_component, audioprop, dispprop, emailprop, occurrences_of}
use Rattle.schema.specs.Properties.{PropertyRow, property_table, property_row, property_names, is_known_property, unrecognised_property, default_type, permitted_types, permits_parameter}

-- ---- names

pub known_property_passes : (p : List ℕ → Bool) → every p property_names ≡ true → (w : List ℕ) → is_known_property w ≡ true → p w ≡ true
unfolding is_known_property
known_property_passes p a w h = word_passes p property_names w a h

pub known_parameter_passes : (p : List ℕ → Bool) → every p parameter_names ≡ true → (w : List ℕ) → is_known_parameter w ≡ true → p w ≡ true
unfolding is_known_parameter
known_parameter_passes p a w h = word_passes p parameter_names w a h

pub known_component_passes : (p : List ℕ → Bool) → every p component_names ≡ true → (w : List ℕ) → is_one_of w component_names ≡ true → p w ≡ true
known_component_passes p a w h = word_passes p component_names w a h

-- made of name characters, and the same after small letters
abbrev pub is_capital_name : List ℕ → Bool
is_capital_name w = ltb 0 (length w) and all_of is_name_char w and same (upper (lower w)) w

pub property_name_lem : (w : List ℕ) → is_known_property w ≡ true → is_capital_name w ≡ true
unfolding octets_compute
property_name_lem w h = known_property_passes is_capital_name refl w h

pub parameter_name_lem : (w : List ℕ) → is_known_parameter w ≡ true → is_capital_name w ≡ true
unfolding octets_compute
parameter_name_lem w h = known_parameter_passes is_capital_name refl w h

pub component_name_lem : (w : List ℕ) → is_one_of w component_names ≡ true → is_capital_name w ≡ true
unfolding octets_compute
component_name_lem w h = known_component_passes is_capital_name refl w h

pub name_capital : (w : List ℕ) → is_capital_name w ≡ true → upper (lower w) ≡ w
name_capital w h = same_true _ _ (and_both _ _ (and_both _ _ h).1).1

pub name_is_name : (w : List ℕ) → is_capital_name w ≡ true → all_of is_name_char w ≡ true
name_is_name w h = (and_both _ _ (and_both _ _ h).1).0

-- ---- unrecognised ones

pub unrecognised_property_lem : (w : List ℕ) → is_known_property w ≡ false → property_row w ≡ unrecognised_property
unfolding is_known_property property_row read_or
unrecognised_property_lem w h = rw (row_none (λ r. r.name) w property_table h)

pub unrecognised_parameter_lem : (w : List ℕ) → is_known_parameter w ≡ false → parameter_row w ≡ unrecognised_parameter
unfolding is_known_parameter parameter_row read_or
unrecognised_parameter_lem w h = rw (row_none (λ r. r.name) w parameter_table h)

-- an unrecognised property has values of any type and carries any parameter
pub unrecognised_types : (w : List ℕ) (t : ValueType) → is_known_property w ≡ false → is_type_of t (permitted_types w) ≡ true
unrecognised_types w t h = rw (unrecognised_property_lem w h) (type_any t)

pub unrecognised_permits : (p q : List ℕ) (t : ValueType) → is_known_property p ≡ false → permits_parameter p t q ≡ true
unfolding permits_parameter pick
unrecognised_permits p q t h = rw (and_no_right (is_known_parameter q) (is_known_property p) h)

-- an unrecognised parameter stands anywhere
pub unrecognised_permitted : (p q : List ℕ) (t : ValueType) → is_known_parameter q ≡ false → permits_parameter p t q ≡ true
unfolding permits_parameter pick
unrecognised_permitted p q t h = rw (and_no_left (is_known_parameter q) (is_known_property p) h)

-- ---- types

pub default_permitted : (w : List ℕ) → is_type_of (default_type w) (permitted_types w) ≡ true
unfolding is_type_of ◌or◌
default_permitted w = rw (same_type_self (default_type w))

-- no known property has an `unknown` value
pub known_types : (w : List ℕ) → is_known_property w ≡ true → is_type_of UNKNOWN (permitted_types w) ≡ false
unfolding octets_compute is_known_property property_row is_type_of same_type
known_types w h = not-true _ (row_known_passes (λ r. r.name) w (λ r. not (is_type_of UNKNOWN (r.default ∷ r.others))) unrecognised_property property_table refl h)

-- the types that a parameter's values have
abbrev pub parameter_types : List ValueType
parameter_types = BOOLEAN ∷ CAL-ADDRESS ∷ TEXT ∷ URI ∷ UNKNOWN ∷ []

pub parameter_type_lem : (w : List ℕ) → is_type_of (parameter_type w) parameter_types ≡ true
unfolding octets_compute parameter_row is_type_of same_type
parameter_type_lem w = row_any_passes (λ r. r.name) w (λ r. is_type_of r.type parameter_types) unrecognised_parameter parameter_table refl refl

-- the quoted parameters are those whose values are a URI or a calendar address
pub quoted_type : (w : List ℕ) → is_quoted_parameter w ≡ (same_type (parameter_type w) URI or same_type (parameter_type w) CAL-ADDRESS)
unfolding octets_compute parameter_row same_type
quoted_type w = agree _ _ (row_any_passes (λ r. r.name) w (λ r. pick r.quoted (is_address r.type) (not (is_address r.type))) unrecognised_parameter parameter_table refl refl)
  where
    is_address : ValueType → Bool
    is_address t = same_type t URI or same_type t CAL-ADDRESS

    agree : (a b : Bool) → pick a b (not b) ≡ true → a ≡ b
    agree true b k = sym k
    agree false true k = absurd (false≢true k)
    agree false false k = refl

-- ---- what stands in a component

every_known : List Occurrence → Bool
every_known os = every is_known_property (map (λ o. o.property) os)

table_known : every is_known_property property_names ≡ true
unfolding octets_compute is_known_property
table_known = refl

-- the properties of a column are rows
standing_known : (l : ℕ) (rs : List PropertyRow) → every is_known_property (map (λ r. r.name) rs) ≡ true → every_known (standing l rs) ≡ true
unfolding standing every_known every ◌and◌ pick
standing_known l [] a = refl
standing_known l (r ∷ rs) a = go (eqb (get_or r.signs l 46) 46) (standing_known l rs (every_both is_known_property r.name (map (λ r. r.name) rs) a).1)
  where
    go : (b : Bool) → every_known (standing l rs) ≡ true → every_known (pick b (standing l rs) (signed r.name (get_or r.signs l 46) ∷ standing l rs)) ≡ true
    go true h = h
    go false h = rw (every_both is_known_property r.name (map (λ r. r.name) rs) a).0 h

list_known : (l : ℕ) → every_known (list_in l) ≡ true
list_known l = standing_known l property_table table_known

pub list_names_known : (l : ℕ) → every is_known_property (map (λ o. o.property) (list_in l)) ≡ true
unfolding every_known
list_names_known l = list_known l

both_known : (os ps : List Occurrence) → every_known os ≡ true → every_known ps ≡ true → every_known (os ⊕ ps) ≡ true
unfolding every_known every ◌⊕◌ ◌and◌
both_known [] ps h k = k
both_known (o ∷ os) ps h k = let b = every_both is_known_property o.property (map (λ o. o.property) os) h in rw b.0 (both_known os ps b.1 k)

components_known : every (λ r. every_known r.occurrences) component_table ≡ true
unfolding every ◌and◌ every_known
components_known = rw (list_known 0, list_known 1, list_known 2, list_known 3, list_known 4, list_known 5, list_known 6, list_known 7)

unknown_known : every_known unknown_component.occurrences ≡ true
unfolding every_known
unknown_known = table_known

all_known : (c : List ℕ) → every is_known_property (standing_in c) ≡ true
unfolding component_row every_known every
all_known c = pick_either (λ os. every_known os ≡ true) (is_alarm c) (audioprop ⊕ dispprop ⊕ emailprop) (occurrences_of c)
    (both_known audioprop (dispprop ⊕ emailprop) (list_known 8) (both_known dispprop emailprop (list_known 9) (list_known 10)))
    (row_any_passes (λ r. r.name) c (λ r. every_known r.occurrences) unknown_component component_table components_known unknown_known)

all_components : (c : List ℕ) → every (λ w. is_one_of w component_names) (subcomponents_of c) ≡ true
unfolding octets_compute component_row
all_components c = row_any_passes (λ r. r.name) c (λ r. every (λ w. is_one_of w component_names) r.subcomponents) unknown_component component_table refl refl

pub stand_known : (c p : List ℕ) → may_stand c p ≡ true → is_known_property p ≡ true
unfolding may_stand
stand_known c p h = word_passes is_known_property (standing_in c) p (all_known c) h

pub subcomponents_known : (c k : List ℕ) → is_one_of k (subcomponents_of c) ≡ true → is_one_of k component_names ≡ true
subcomponents_known c k h = word_passes (λ w. is_one_of w component_names) (subcomponents_of c) k (all_components c) h
