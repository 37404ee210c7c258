-- The values of a property by its row and the component's number.
--     values_at  the values that are read;   values_at_lem: they are those of the names
--     property_of_place   the property that a line states is that of the component's number
--     component_again     the number of the name of a number
use Rattle.std.specs.Prelude.{◌≡◌, refl, List, [], ℕ, ◌≤◌, ◌<◌, eqb, Option, None}
use Rattle.std.proofs.Common.{sym, ap, ◌∙◌, arith, ne_eqb}
use Rattle.std.proofs.Math.Decide.{dec_le}
use Rattle.std.proofs.Math.ListN.{get_or-eq_default}
use Rattle.octets.specs.Pick.{pick}
use Rattle.octets.specs.Class.{upper}
use Rattle.names.specs.Table.{place_of}
use Rattle.calendar.specs.Calendar.{ValueType, TEXT, UNKNOWN, Value}
use Rattle.schema.specs.Types.{value_types, type_place, same_type}
use Rattle.schema.specs.Components.{component_names}
use Rattle.schema.specs.Properties.{property_names}
use Rattle.schema.specs.Numbers.{type_at, component_name}
use Rattle.schema.specs.Coded.{row_at}
use Rattle.schema.specs.Columns.{permits_type}
use Rattle.schema.specs.laws.Columns.{number_place, listed_place, permits_type_place}
use Rattle.schema.specs.declared.table.Row.{Row}
use Rattle.schema.specs.Sets.{words_at}
use Rattle.schema.specs.laws.Sets.{words_place, geo_place, request_status_place}
use Rattle.schema.specs.laws.Places.{component_at_lem, no_component_lem, component_fixed, type_back}
use Rattle.schema.specs.Property as property
use Rattle.numbers.specs.Geo.{read_geo}
use Rattle.texts.specs.RequestStatus.{read_request_status}
use Rattle.read_text_line.specs.ContentLine.{ContentLine}
use Rattle.text.specs.Values.{one_value, read_listed, read_chosen, read_own, read_values}
use Rattle.text.specs.Statement.{property_of}

abbrev pub own_at : ℕ → Row → ValueType → List ℕ → Option (List Value)
own_at k row t l =
    pick (eqb row.number property.GEO) (one_value (read_geo l))
    (pick (eqb row.number property.REQUEST-STATUS) (one_value (read_request_status l))
    (pick row.listed (read_listed t l) (one_value (read_chosen (words_at k row.number) t l))))

abbrev pub values_at : ℕ → Row → ValueType → List ℕ → Option (List Value)
values_at k row t l = pick (permits_type row (type_place t)) (own_at k row t l) None

-- ---- names by their numbers

own_place : (c w : List ℕ) (t : ValueType) (l : List ℕ) → read_own c w t l ≡ own_at (place_of c component_names) (row_at (place_of w property_names)) t l
own_place c w t l = rw (geo_place w, request_status_place w, words_place c w, ← (listed_place w), number_place w)

pub values_at_lem : (c w : List ℕ) (t : ValueType) (l : List ℕ) → read_values c w t l ≡ values_at (place_of c component_names) (row_at (place_of w property_names)) t l
unfolding read_values
values_at_lem c w t l = rw (own_place c w t l, permits_type_place w t)

-- ---- the number of the name of a number

pub component_again : (k : ℕ) → k < 9 → k ≡ place_of (component_name k) component_names
component_again k h = sym (component_at_lem k h)

pub component_other : (k : ℕ) → 9 ≤ k → 9 ≡ place_of (component_name k) component_names
component_other k h = rw (get_or-eq_default component_names [] h) (sym no_component_lem)

pub type_text : (t : ℕ) → same_type (type_at t) TEXT ≡ eqb t 10
unfolding same_type
type_text t = go (dec_le 14 t)
  where
    go : Dec (14 ≤ t) → eqb (type_place (type_at t)) 10 ≡ eqb t 10
    go (yes h) = rw (get_or-eq_default value_types UNKNOWN h) (sym (ne_eqb t 10 (λ e. omega arith)))
    go (no h) = rw (type_back t (omega arith))

pub type_here : (t : ℕ) → t < 14 → (type_at t ≡ type_at t) × (t ≤ 14)
type_here t h = (refl, omega arith)

pub type_other : (t : ℕ) → 14 ≤ t → (type_at 14 ≡ type_at t) × (14 ≤ 14)
type_other t h = (sym (get_or-eq_default value_types UNKNOWN h), omega arith)

-- ---- in the component of a number

values_component : (c w : List ℕ) (t : ValueType) (l : List ℕ) → read_values (component_name (place_of c component_names)) w t l ≡ read_values c w t l
values_component c w t l =
    values_at_lem (component_name (place_of c component_names)) w t l ∙ ap (λ (k : ℕ). values_at k (row_at (place_of w property_names)) t l) (component_fixed c) ∙ sym (values_at_lem c w t l)

-- what a line states in a component is what it states in the component of that number
pub property_of_place : (c : List ℕ) (l : ContentLine) → property_of (component_name (place_of c component_names)) l ≡ property_of c l
unfolding property_of
property_of_place c l = rw (values_component c (upper l.name))
