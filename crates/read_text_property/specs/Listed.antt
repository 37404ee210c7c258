-- Lists of values: what the code finds piece by piece is what `read_listed` says.
--     each_value t ws    each of the pieces ws is a value of the type t
use Rattle.std.specs.Prelude.{Bool, List, ℕ}
use Rattle.octets.specs.Reading.{is_read, read_each}
use Rattle.calendar.specs.Calendar.{ical, ValueType}
use Rattle.values.specs.ReadValue.{read_value}

abbrev pub each_value : ValueType → List (List ℕ) → Bool
each_value t ws = is_read (read_each (read_value ical t) ws)
