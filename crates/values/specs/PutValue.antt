-- A value read from iCalendar text and written as the character data of its XML element.
--     xml_of       the character data of what was read; nothing where nothing was read
use Rattle.std.specs.Prelude.{List, ℕ, Option}
use Rattle.octets.specs.Reading.{or_nothing}
use Rattle.calendar.specs.Calendar.{Value}
use Rattle.xml.specs.Escape.{escaped}
use Rattle.values.specs.WriteValue.{value_characters}

unfoldable pub xml_of : Option Value → List ℕ
xml_of o = or_nothing (λ v. escaped (value_characters v)) o
