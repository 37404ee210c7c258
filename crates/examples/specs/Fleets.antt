-- Unrecognised components, both ways.
--     fleet           the fleet of samples/
--     eight           components inside one another, eight levels below the calendar; their name is END
--     text_table      texts that are refused: a ninth level, an END of another name, a calendar inside, a closed word, a property behind a component
--     document_table  the same of documents, and `properties` missing
use Rattle.std.specs.Prelude.{◌≡◌, refl, List, [], ◌∷◌, ◌++◌, map, ℕ, replicate}
use Prim.Native.String.{String}
use Rattle.octets.specs.Ascii.{ascii}
use Rattle.calls.specs.Computing.{conversions_compute}
use Rattle.examples.specs.Notation.{text_lines, canonical}
use Rattle.examples.specs.Readings.{whole_text, refused◌at◌, both_ways, Row, ◌gives◌, asked, answered, answer_of, of_text}
use Rattle.examples.specs.Worked.{calendar_text, calendar_xml}
use Rattle.examples.specs.Refusals.{DocumentRow, ◌is_told◌, of_document, document_answer}

-- ---- accepted

abbrev pub fleet : List ℕ
fleet = text_lines (
    "BEGIN:VCALENDAR" ∷
    "PRODID:-//Lake Dinghy Class//Fleets//EN" ∷
    "VERSION:2.0" ∷
    "BEGIN:X-FLEET" ∷
    "X-CLASS:Optimist" ∷
    "STATUS:CONFIRMED" ∷
    "BEGIN:X-DIVISION" ∷
    "SUMMARY:Gold" ∷
    "SUMMARY:First start" ∷
    "BEGIN:VEVENT" ∷
    "UID:gold-1@lake.example" ∷
    "DTSTAMP:20240501T060000Z" ∷
    "DTSTART:20240504T080000Z" ∷
    "SUMMARY:Gold\\, first race" ∷
    "END:VEVENT" ∷
    "END:X-DIVISION" ∷
    "BEGIN:X-DIVISION" ∷
    "END:X-DIVISION" ∷
    "END:X-FLEET" ∷
    "END:VCALENDAR" ∷
    [])

fleet_converted : of_text fleet ≡ both_ways
    (canonical (
    ascii "<vcalendar><properties><prodid><text>-//Lake Dinghy Class//Fleets//EN</text></prodid><version><text>2.0</text></version></properties><components>"
    ++ ascii "<x-fleet><properties><x-class><unknown>Optimist</unknown></x-class><status><text>CONFIRMED</text></status></properties><components>"
    ++ ascii "<x-division><properties><summary><text>Gold</text></summary><summary><text>First start</text></summary></properties><components>"
    ++ ascii "<vevent><properties><uid><text>gold-1@lake.example</text></uid><dtstamp><date-time>2024-05-01T06:00:00Z</date-time></dtstamp>"
    ++ ascii "<dtstart><date-time>2024-05-04T08:00:00Z</date-time></dtstart><summary><text>Gold, first race</text></summary></properties></vevent></components></x-division>"
    ++ ascii "<x-division><properties></properties></x-division></components></x-fleet></components></vcalendar>"))
    fleet
unfolding conversions_compute
fleet_converted = refl

-- so many components, each in the one before
abbrev inside_text : ℕ → List String
inside_text n = replicate n "BEGIN:END" ++ replicate n "END:END"

abbrev inside_xml : ℕ → List ℕ
inside_xml n = deep (replicate n 69)
  where
    deep : List ℕ → List ℕ
    deep [] = []
    deep (b ∷ []) = ascii "<end><properties></properties></end>"
    deep (b ∷ c ∷ s) = ascii "<end><properties></properties><components>" ++ deep (c ∷ s) ++ ascii "</components></end>"

abbrev pub eight : List ℕ
eight = calendar_text (inside_text 8)

eight_converted : of_text eight ≡ both_ways (canonical (calendar_xml (inside_xml 8))) eight
unfolding conversions_compute
eight_converted = refl

-- ---- refused

abbrev pub text_table : List Row
text_table =
    -- 6 at its line: a ninth level; an END of another name; a calendar; a property behind a component
    whole_text (calendar_text (inside_text 9)) gives refused 6 at 128 ∷
    whole_text (calendar_text ("BEGIN:X-A" ∷ "BEGIN:X-B" ∷ "END:X-A" ∷ "END:X-B" ∷ [])) gives refused 6 at 62 ∷
    whole_text (calendar_text ("BEGIN:X-A" ∷ "BEGIN:VCALENDAR" ∷ "END:VCALENDAR" ∷ "END:X-A" ∷ [])) gives refused 6 at 51 ∷
    whole_text (calendar_text ("BEGIN:X-A" ∷ "BEGIN:X-B" ∷ "END:X-B" ∷ "X-C:1" ∷ "END:X-A" ∷ [])) gives refused 6 at 71 ∷
    -- 8: a word that no component's STATUS has
    whole_text (calendar_text ("BEGIN:X-A" ∷ "STATUS:LATE" ∷ "END:X-A" ∷ [])) gives refused 8 at 58 ∷
    []

texts_refused : map (λ (r : Row). answer_of (asked r)) text_table ≡ map answered text_table
unfolding conversions_compute
texts_refused = refl

abbrev pub document_table : List DocumentRow
document_table =
    -- 5 at its tag: a name with a capital
    canonical (calendar_xml (ascii "<x-A><properties></properties></x-A>")) is_told refused 5 at 209 ∷
    -- 6: a ninth level, a calendar, at its tag; no `properties`, at the end tag
    canonical (calendar_xml (inside_xml 9)) is_told refused 6 at 545 ∷
    canonical (calendar_xml (ascii "<x-a><properties></properties><components><vcalendar></vcalendar></components></x-a>")) is_told refused 6 at 251 ∷
    canonical (calendar_xml (ascii "<x-a></x-a>")) is_told refused 6 at 214 ∷
    []

documents_refused : map of_document document_table ≡ map document_answer document_table
unfolding conversions_compute
documents_refused = refl
