-- The faults of a property's line, and their places: its parameters, its values.
--     fault_of        what an answer says;   FaultIs: the contract of a function that answers so
--     value_fault     the fault of a value
--     fault_at        a line's fault, by its component's number and its property's row
use Rattle.std.specs.Prelude.{◌≡◌, Bool, true, false, List, ℕ, Option, None, Some, option_map}
use Rattle.octets.specs.Reading.{read_or}
use Rattle.calendar.specs.Refusal.{PARAMETER, VALUE}
use Rattle.schema.specs.declared.table.Row.{Row}
use Rattle.read_text_line.specs.ContentLine.{RawParameter}
use Rattle.text.specs.Faults.{parameter_name, value_start, Fault, fault, line_fault}
use Rattle.read_text_parameters.specs.Stating.{stated_at}
use Rattle.read_text_parameters.specs.Walking.{fault_as}
use Rattle.read_text_property.specs.ValuesAt.{good_at}
use Rattle.read_text_property.specs.declared.LineFault.{LineFault}
use Rattle.read_text_property.specs.declared.LineFault.TheVariants.{Parameter, Encoding, Value}

abbrev pub fault_of : LineFault → Fault
fault_of (Parameter i) = fault PARAMETER (parameter_name i)
fault_of Encoding = fault PARAMETER value_start
fault_of Value = fault VALUE value_start

pub record FaultIs (o : Option Fault) (r : Option LineFault) : Type 0 where
  pub is : option_map fault_of r ≡ o

abbrev pub value_fault : Bool → Option LineFault
value_fault true = None
value_fault false = Some Value

-- with these parameters, and these bytes as its value; 10 is TEXT
unfoldable pub fault_at : ℕ → Row → List RawParameter → List ℕ → Option Fault
fault_at k row rs l = line_fault (fault_as row (stated_at row.default rs) rs) (good_at k row (read_or 10 (stated_at row.default rs)) l)
