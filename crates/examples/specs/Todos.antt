-- To-dos that are due, and events without DTSTART (RFC 5545, 3.6.1 and 3.6.2), both ways.
--     jobs            the job list of samples/
--     invitation      an event without DTSTART in a calendar with METHOD
--     text_table      texts that are refused: DTEND in a to-do, a broken pair, METHOD in no calendar, in the one before, in the one behind
--     document_table  the same of documents, and METHOD in a `properties` that comes late
use Rattle.std.specs.Prelude.{◌≡◌, refl, List, [], ◌∷◌, ◌++◌, map, ℕ}
use Prim.Native.String.{String}
use Rattle.octets.specs.Ascii.{ascii}
use Rattle.calls.specs.Computing.{conversions_compute}
use Rattle.examples.specs.Notation.{text_lines, canonical}
use Rattle.examples.specs.Readings.{whole_text, refused◌at◌, both_ways, Row, ◌gives◌, asked, answered, answer_of, of_text}
use Rattle.examples.specs.Worked.{calendar_text, calendar_xml}
use Rattle.examples.specs.Refusals.{DocumentRow, ◌is_told◌, of_document, document_answer}

-- ---- accepted

abbrev pub jobs : List ℕ
jobs = text_lines (
    "BEGIN:VCALENDAR" ∷
    "PRODID:-//Lakewatch//Jobs//EN" ∷
    "VERSION:2.0" ∷
    "BEGIN:VTODO" ∷
    "UID:j1" ∷
    "DTSTAMP:20240501T060000Z" ∷
    "DUE;VALUE=DATE:20240511" ∷
    "SUMMARY:Paint the jetty" ∷
    "STATUS:NEEDS-ACTION" ∷
    "END:VTODO" ∷
    "BEGIN:VTODO" ∷
    "UID:j2" ∷
    "DTSTAMP:20240501T060000Z" ∷
    "DTSTART;TZID=Lake:20240504T100000" ∷
    "DURATION:PT2H" ∷
    "SUMMARY:Check the moorings" ∷
    "END:VTODO" ∷
    "END:VCALENDAR" ∷
    [])

jobs_converted : of_text jobs ≡ both_ways
    (canonical (
    ascii "<vcalendar><properties><prodid><text>-//Lakewatch//Jobs//EN</text></prodid><version><text>2.0</text></version></properties><components>"
    ++ ascii "<vtodo><properties><uid><text>j1</text></uid><dtstamp><date-time>2024-05-01T06:00:00Z</date-time></dtstamp><due><date>2024-05-11</date></due>"
    ++ ascii "<summary><text>Paint the jetty</text></summary><status><text>NEEDS-ACTION</text></status></properties></vtodo>"
    ++ ascii "<vtodo><properties><uid><text>j2</text></uid><dtstamp><date-time>2024-05-01T06:00:00Z</date-time></dtstamp>"
    ++ ascii "<dtstart><parameters><tzid><text>Lake</text></tzid></parameters><date-time>2024-05-04T10:00:00</date-time></dtstart><duration><duration>PT2H</duration></duration>"
    ++ ascii "<summary><text>Check the moorings</text></summary></properties></vtodo></components></vcalendar>"))
    jobs
unfolding conversions_compute
jobs_converted = refl

abbrev unstarted : List String
unstarted = "BEGIN:VEVENT" ∷ "UID:u" ∷ "DTSTAMP:20240501T060000Z" ∷ "END:VEVENT" ∷ []

abbrev unstarted_xml : List ℕ
unstarted_xml = ascii "<vevent><properties><uid><text>u</text></uid><dtstamp><date-time>2024-05-01T06:00:00Z</date-time></dtstamp></properties></vevent>"

abbrev requested : List ℕ
requested = ascii "<properties><prodid><text>p</text></prodid><version><text>2.0</text></version><method><text>REQUEST</text></method></properties>"

abbrev pub invitation : List ℕ
invitation = calendar_text ("METHOD:REQUEST" ∷ unstarted)

invitation_converted : of_text invitation ≡ both_ways (canonical (ascii "<vcalendar>" ++ requested ++ ascii "<components>" ++ unstarted_xml ++ ascii "</components></vcalendar>")) invitation
unfolding conversions_compute
invitation_converted = refl

-- ---- refused

abbrev todo_text : List String → List ℕ
todo_text ls = calendar_text ("BEGIN:VTODO" ∷ "UID:u" ∷ "DTSTAMP:20240501T060000Z" ∷ ls ++ ("END:VTODO" ∷ []))

abbrev pub text_table : List Row
text_table =
    -- 6 at its line: DTEND
    whole_text (todo_text ("DTEND:20240511T090000" ∷ [])) gives refused 6 at 86 ∷
    -- 9 at END: DUE and DURATION; DURATION without DTSTART; DUE twice
    whole_text (todo_text ("DTSTART:20240504T080000" ∷ "DUE:20240511T090000" ∷ "DURATION:PT1H" ∷ [])) gives refused 9 at 147 ∷
    whole_text (todo_text ("DURATION:PT1H" ∷ [])) gives refused 9 at 101 ∷
    whole_text (todo_text ("DUE:20240511T090000" ∷ "DUE:20240511T090000" ∷ [])) gives refused 9 at 128 ∷
    -- 9 at END: no METHOD; one in the calendar before; one in the calendar behind
    whole_text (calendar_text unstarted) gives refused 9 at 87 ∷
    whole_text (calendar_text ("METHOD:REQUEST" ∷ []) ++ calendar_text unstarted) gives refused 9 at 158 ∷
    whole_text (calendar_text unstarted ++ calendar_text ("METHOD:REQUEST" ∷ [])) gives refused 9 at 87 ∷
    []

texts_refused : map (λ (r : Row). answer_of (asked r)) text_table ≡ map answered text_table
unfolding conversions_compute
texts_refused = refl

abbrev todo_xml : List ℕ → List ℕ
todo_xml s = canonical (calendar_xml (
    ascii "<vtodo><properties><uid><text>u</text></uid><dtstamp><date-time>2024-05-01T06:00:00Z</date-time></dtstamp>" ++ s ++ ascii "</properties></vtodo>"))

abbrev pub document_table : List DocumentRow
document_table =
    -- 6 at its tag: DTEND
    todo_xml (ascii "<dtend><date>2024-05-11</date></dtend>") is_told refused 6 at 315 ∷
    -- 9 at the end tag: DUE and DURATION
    todo_xml (ascii "<dtstart><date>2024-05-04</date></dtstart><due><date>2024-05-11</date></due><duration><duration>P1D</duration></duration>")
    is_told refused 9 at 449 ∷
    -- 9 at the end tag: METHOD in a `properties` that comes late, before the 6 at `properties`; METHOD in the calendar before
    canonical (ascii "<vcalendar><components>" ++ unstarted_xml ++ ascii "</components>" ++ requested ++ ascii "</vcalendar>") is_told refused 9 at 238 ∷
    canonical (ascii "<vcalendar>" ++ requested ++ ascii "<components></components></vcalendar>" ++ calendar_xml unstarted_xml) is_told refused 9 at 505 ∷
    []

documents_refused : map of_document document_table ≡ map document_answer document_table
unfolding conversions_compute
documents_refused = refl
