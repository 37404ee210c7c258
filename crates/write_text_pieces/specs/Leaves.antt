-- A value that is character data in XML, written as iCalendar text.
--     value_text     the text of what was read; nothing where nothing was read
use Rattle.std.specs.Prelude.{List, ℕ, Option}
use Rattle.octets.specs.Reading.{or_nothing}
use Rattle.calendar.specs.Calendar.{Value}
use Rattle.values.specs.WriteValue.{write_value}

unfoldable pub value_text : Option Value → List ℕ
value_text o = or_nothing write_value o
