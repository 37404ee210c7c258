-- Laws of what specs/Numbers.antt defines.
--     property_place, parameter_place, component_place, type_place_lem  the row of a name is the row of its number
--     parameters_packed    the numbers of the code are those of the names
--     type_names_are, component_names_are, type_words_are   the tables of names in the code
use Rattle.std.specs.Prelude.{◌≡◌, refl, true, List, ℕ}
use Rattle.octets.specs.Ascii.{ascii}
use Rattle.octets.specs.Pick.{pick}
use Rattle.octets.specs.Reading.{read_or}
use Rattle.names.specs.Packing.{agree, packing_compute}
use Rattle.names.specs.Table.{place_of, names_in, nth}
use Rattle.names.specs.laws.Table.{row_place, row_or}
use Rattle.calendar.specs.Calendar.{UNKNOWN}
use Rattle.schema.specs.Types.{type_name, value_types, type_named}
use Rattle.schema.specs.Parameters.{parameter_table, parameter_names, unrecognised_parameter, parameter_row}
use Rattle.schema.specs.Components.{component_table, component_names, unknown_component, component_row}
use Rattle.schema.specs.Properties.{property_table, property_names, unrecognised_property, property_row}
use Rattle.schema.specs.Numbers.{type_names, type_words, type_at, component_at, property_at, parameter_at}
use Rattle.schema.specs.Packs.{parameter_rows, parameter_rows3}

-- ---- rows

pub property_place : (w : List ℕ) → property_row w ≡ property_at (place_of w property_names)
unfolding property_row
property_place w = row_or (λ r. r.name) w (λ r. r) unrecognised_property property_table

pub parameter_place : (w : List ℕ) → parameter_row w ≡ parameter_at (place_of w parameter_names)
unfolding parameter_row
parameter_place w = row_or (λ r. r.name) w (λ r. r) unrecognised_parameter parameter_table

pub component_place : (w : List ℕ) → component_row w ≡ component_at (place_of w component_names)
unfolding component_row
component_place w = row_or (λ r. r.name) w (λ r. r) unknown_component component_table

pub type_place_lem : (w : List ℕ) → type_named w ≡ nth value_types (place_of w type_names)
unfolding type_named
type_place_lem w = row_place type_name w value_types

-- with no type of that name, UNKNOWN
pub type_place_or : (w : List ℕ) → read_or UNKNOWN (type_named w) ≡ type_at (place_of w type_names)
unfolding type_named
type_place_or w = row_or type_name w (λ t. t) UNKNOWN value_types

-- ---- the names of the code

pub type_names_are : names_in (ascii "BINARY\nBOOLEAN\nCAL-ADDRESS\nDATE\nDATE-TIME\nDURATION\nFLOAT\nINTEGER\nPERIOD\nRECUR\nTEXT\nTIME\nURI\nUTC-OFFSET\n") ≡ type_names
unfolding names_in pick
type_names_are = refl

pub component_names_are : names_in (ascii "VCALENDAR\nVEVENT\nVTODO\nVJOURNAL\nVFREEBUSY\nVTIMEZONE\nSTANDARD\nDAYLIGHT\nVALARM\n") ≡ component_names
unfolding names_in pick
component_names_are = refl

pub parameters_packed : agree parameter_rows parameter_rows3 parameter_names ≡ true
unfolding packing_compute
parameters_packed = refl

pub type_words_are : names_in (ascii "binary\nboolean\ncal-address\ndate\ndate-time\nduration\nfloat\ninteger\nperiod\nrecur\ntext\ntime\nuri\nutc-offset\nunknown\n") ≡ type_words
unfolding names_in pick
type_words_are = refl
