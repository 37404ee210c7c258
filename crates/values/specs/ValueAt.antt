-- Whether there is a value of a type, from a cursor on: what the readers of each type answer is what `read_value` says.
--     value_read   the answer of `read_value`: the type's number where there is a value
--     is_read_at   whether a value of a type is read in an encoding: as `read_value` says, but that RECUR of text is read only where that can be cut
--     from_binary  the type of a number; from_date, from_integer, from_time: the same without the types before DATE, INTEGER, TIME
use Rattle.std.specs.Prelude.{Bool, true, false, not, List, ℕ, eqb, Option, None, Some}
use Rattle.octets.specs.Pick.{pick, ◌and◌, ◌or◌}
use Rattle.octets.specs.Reading.{is_read}
use Rattle.source.specs.Source.{cuts}
use Rattle.schema.specs.Types.{type_place}
use Rattle.values.specs.ReadValue.{read_value}
use Rattle.calendar.specs.Calendar.{format_of, ValueType, BINARY, BOOLEAN, CAL-ADDRESS, DATE, DATE-TIME, DURATION, FLOAT, INTEGER, PERIOD, RECUR, TEXT, TIME, URI, UTC-OFFSET, UNKNOWN}

abbrev pub value_read : ℕ → Bool → Option ℕ
value_read t true = Some t
value_read t false = None

-- from XML or not, in the encoding m, of the type t; 9 is RECUR
unfoldable pub is_read_at : Bool → ℕ → ValueType → List ℕ → Bool
is_read_at x m t l = (x or cuts m or not (eqb (type_place t) 9)) and is_read (read_value (format_of x) t l)

-- ---- the type of a number

abbrev pub from_time : ℕ → ValueType
from_time t = pick (eqb t 11) TIME (pick (eqb t 12) URI (pick (eqb t 13) UTC-OFFSET UNKNOWN))

abbrev pub from_integer : ℕ → ValueType
from_integer t = pick (eqb t 7) INTEGER (pick (eqb t 8) PERIOD (pick (eqb t 9) RECUR (pick (eqb t 10) TEXT (from_time t))))

abbrev pub from_date : ℕ → ValueType
from_date t = pick (eqb t 3) DATE (pick (eqb t 4) DATE-TIME (pick (eqb t 5) DURATION (pick (eqb t 6) FLOAT (from_integer t))))

abbrev pub from_binary : ℕ → ValueType
from_binary t = pick (eqb t 0) BINARY (pick (eqb t 1) BOOLEAN (pick (eqb t 2) CAL-ADDRESS (from_date t)))
