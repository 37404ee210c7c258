-- How the examples write texts and documents down.
--     text_lines    lines of a text, each ended by CRLF
--     xml_lines     lines of a document, each ended by LF
--     canonical     the canonical document whose root element holds these bytes
--     given         what a text gives, to XML
--     in_event      a small calendar with one event, in which these lines stand last: the first of them at place 112
--     event_xml     the canonical document of that calendar, in which these properties stand last
use Rattle.std.specs.Prelude.{List, [], ◌∷◌, ◌++◌, ℕ, length, Some}
use Prim.Native.String.{String}
use Rattle.octets.specs.Ascii.{ascii}
use Rattle.edition.specs.declared.Edition.TheVariants.{Rfc5545}
use Rattle.calls.specs.Conversion.{Converted}
use Rattle.calls.specs.ToXml.{to_xml}

abbrev pub text_lines : List String → List ℕ
text_lines [] = []
text_lines (l ∷ ls) = ascii l ++ (13 ∷ 10 ∷ text_lines ls)

abbrev pub xml_lines : List String → List ℕ
xml_lines [] = []
xml_lines (l ∷ ls) = ascii l ++ (10 ∷ xml_lines ls)

abbrev pub canonical : List ℕ → List ℕ
canonical s =
    xml_lines ("<?xml version=\"1.0\" encoding=\"utf-8\"?>" ∷ [])
    ++ ascii "<icalendar xmlns=\"urn:ietf:params:xml:ns:icalendar-2.0\">" ++ s ++ xml_lines ("</icalendar>" ∷ [])

-- with a work room as long as the text
abbrev pub given : List ℕ → Converted
given s = to_xml (Some Rfc5545) s (length s)

-- ---- one event

abbrev pub in_event : List ℕ → List ℕ
in_event s =
    text_lines (
    "BEGIN:VCALENDAR" ∷
    "PRODID:p" ∷
    "VERSION:2.0" ∷
    "BEGIN:VEVENT" ∷
    "UID:u" ∷
    "DTSTAMP:20240501T060000Z" ∷
    "DTSTART:20240504T080000" ∷ [])
    ++ s
    ++ text_lines ("END:VEVENT" ∷ "END:VCALENDAR" ∷ [])

abbrev pub event_xml : List ℕ → List ℕ
event_xml s = canonical (
    ascii "<vcalendar><properties><prodid><text>p</text></prodid><version><text>2.0</text></version></properties><components><vevent><properties>"
    ++ ascii "<uid><text>u</text></uid><dtstamp><date-time>2024-05-01T06:00:00Z</date-time></dtstamp><dtstart><date-time>2024-05-04T08:00:00</date-time></dtstart>"
    ++ s
    ++ ascii "</properties></vevent></components></vcalendar>")
