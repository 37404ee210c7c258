-- Numbers of names. A component, property, parameter or type is its place in its list of names; a place equal to the list's length is an unrecognised one.
--     type_names                                        the names of the fourteen types;   type_words: of their elements in xCal, and of `unknown`
--     type_at, component_at, property_at, parameter_at  the type, or the row, of a number
--     component_name, property_name, parameter_name     the name of a number; of an unrecognised one no bytes
use Rattle.std.specs.Prelude.{List, [], ◌∷◌, map, ℕ, get_or}
use Rattle.octets.specs.Ascii.{ascii}
use Rattle.calendar.specs.Calendar.{ValueType, UNKNOWN}
use Rattle.schema.specs.Types.{type_name, value_types}
use Rattle.schema.specs.Parameters.{ParameterRow, parameter_table, parameter_names, unrecognised_parameter}
use Rattle.schema.specs.Components.{ComponentRow, component_table, component_names, unknown_component}
use Rattle.schema.specs.Properties.{PropertyRow, property_table, property_names, unrecognised_property}

abbrev pub type_names : List (List ℕ)
type_names = map type_name value_types

abbrev pub type_words : List (List ℕ)
type_words =
    ascii "binary" ∷ ascii "boolean" ∷ ascii "cal-address" ∷ ascii "date" ∷ ascii "date-time" ∷ ascii "duration" ∷ ascii "float" ∷ ascii "integer"
    ∷ ascii "period" ∷ ascii "recur" ∷ ascii "text" ∷ ascii "time" ∷ ascii "uri" ∷ ascii "utc-offset" ∷ ascii "unknown" ∷ []

abbrev pub type_at : ℕ → ValueType
type_at n = get_or value_types n UNKNOWN

abbrev pub component_at : ℕ → ComponentRow
component_at n = get_or component_table n unknown_component

abbrev pub property_at : ℕ → PropertyRow
property_at n = get_or property_table n unrecognised_property

abbrev pub parameter_at : ℕ → ParameterRow
parameter_at n = get_or parameter_table n unrecognised_parameter

abbrev pub component_name : ℕ → List ℕ
component_name n = get_or component_names n []

abbrev pub property_name : ℕ → List ℕ
property_name n = get_or property_names n []

abbrev pub parameter_name : ℕ → List ℕ
parameter_name n = get_or parameter_names n []
