-- The property that a content line states in a component, and the faults of its parameters and its value (refusals 7 and 8).
--     property_fault k l  the lowest refusal among PARAMETER and VALUE that the line l has in a component k, and its place in the line
--     property_of k l     the property that it states
use Rattle.std.specs.Prelude.{List, [], ℕ, Option}
use Rattle.octets.specs.Class.{upper}
use Rattle.octets.specs.Reading.{is_read, read_or}
use Rattle.calendar.specs.Calendar.{ValueType, TEXT, Value, Property}
use Rattle.read_text_line.specs.ContentLine.{ContentLine}
use Rattle.text.specs.Parameters.{stated_type, read_parameters}
use Rattle.text.specs.Values.{read_values}
use Rattle.text.specs.Faults.{Fault, parameters_fault, line_fault}

-- the type that the line states; none where VALUE names none
abbrev pub type_of_line : ContentLine → Option ValueType
type_of_line l = stated_type (upper l.name) l.parameters

-- by that type; a line without one has the fault of its parameters
abbrev pub values_of_line : List ℕ → Option ValueType → ContentLine → Option (List Value)
values_of_line k t l = read_values k (upper l.name) (read_or TEXT t) l.value

unfoldable pub fault_as : Option ValueType → List ℕ → ContentLine → Option Fault
fault_as t k l = line_fault (parameters_fault (upper l.name) t l.parameters) (is_read (values_of_line k t l))

abbrev pub property_fault : List ℕ → ContentLine → Option Fault
property_fault k l = fault_as (type_of_line l) k l

-- what is not read counts as nothing here: such a line is refused
unfoldable pub property_of : List ℕ → ContentLine → Property
property_of k l = record {
  name = upper l.name;
  parameters = read_or [] (read_parameters l.parameters);
  values = read_or [] (values_of_line k (type_of_line l) l);
}
