-- The values of a property of iCalendar text written as elements of XML, by the property's row and the numbers of the component and the type.
--     single_xml, shown_xml  what is written where the values can be read
use Rattle.std.specs.Prelude.{List, ℕ, eqb}
use Rattle.octets.specs.Pick.{pick}
use Rattle.octets.specs.Class.{upper}
use Rattle.octets.specs.Reading.{is_read, or_nothing}
use Rattle.calendar.specs.Calendar.{ical, text}
use Rattle.schema.specs.Numbers.{type_at}
use Rattle.schema.specs.Sets.{words_at}
use Rattle.schema.specs.Property as property
use Rattle.schema.specs.declared.table.Row.{Row}
use Rattle.numbers.specs.Geo.{read_geo}
use Rattle.texts.specs.RequestStatus.{read_request_status}
use Rattle.texts.specs.StatusXml.{status_xml}
use Rattle.values.specs.ReadValue.{read_value}
use Rattle.xcal.specs.WriteXml.{value_xml}
use Rattle.write_xml_property.specs.Pieces.{listed_xml}

-- a word of a closed set in capitals, or a value of the type t
abbrev pub single_xml : ℕ → Row → ℕ → List ℕ → List ℕ
single_xml k row t l = pick (is_read (words_at k row.number)) (value_xml (text (upper l))) (or_nothing value_xml (read_value ical (type_at t) l))

abbrev pub shown_xml : ℕ → Row → ℕ → List ℕ → List ℕ
shown_xml k row t l =
    pick (eqb row.number property.GEO) (or_nothing value_xml (read_geo l))
    (pick (eqb row.number property.REQUEST-STATUS) (or_nothing status_xml (read_request_status l))
    (pick row.listed (listed_xml t l) (single_xml k row t l)))
