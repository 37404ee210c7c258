-- The rota of the rules ("One rota, whole"), to XML and back to text, byte for byte.
use Rattle.std.specs.Prelude.{◌≡◌, refl, List, [], ◌∷◌, ℕ, Some}
use Rattle.edition.specs.declared.Edition.TheVariants.{Rfc5545}
use Rattle.calls.specs.Conversion.{result}
use Rattle.calls.specs.ToText.{to_text}
use Rattle.calls.specs.Computing.{conversions_compute}
use Rattle.examples.specs.Notation.{given, text_lines, xml_lines}

abbrev pub rota : List ℕ
rota = text_lines (
    "BEGIN:VCALENDAR" ∷
    "PRODID:-//Lakewatch//Rota//EN" ∷
    "VERSION:2.0" ∷
    "BEGIN:VEVENT" ∷
    "UID:r1" ∷
    "DTSTAMP:20240501T060000Z" ∷
    "DTSTART;TZID=Lake:20240504T080000" ∷
    "SUMMARY:Read glass\\, phone <office>" ∷
    "END:VEVENT" ∷
    "END:VCALENDAR" ∷ [])

abbrev pub rota_xml : List ℕ
rota_xml = xml_lines (
    "<?xml version=\"1.0\" encoding=\"utf-8\"?>" ∷
    "<icalendar xmlns=\"urn:ietf:params:xml:ns:icalendar-2.0\"><vcalendar><properties><prodid><text>-//Lakewatch//Rota//EN</text></prodid><version><text>2.0</text></version></properties><components><vevent><properties><uid><text>r1</text></uid><dtstamp><date-time>2024-05-01T06:00:00Z</date-time></dtstamp><dtstart><parameters><tzid><text>Lake</text></tzid></parameters><date-time>2024-05-04T08:00:00</date-time></dtstart><summary><text>Read glass, phone &lt;office&gt;</text></summary></properties></vevent></components></vcalendar></icalendar>" ∷ [])

pub rota_to_xml : given rota ≡ result rota_xml
unfolding conversions_compute
rota_to_xml = refl

pub rota_to_text : to_text (Some Rfc5545) rota_xml ≡ result rota
unfolding conversions_compute
rota_to_text = refl
