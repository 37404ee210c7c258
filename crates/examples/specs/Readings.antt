-- The starred readings of the rules, as one table under one claim: in each row a question and its answer. What can be asked of a whole conversion is asked so:
-- the line stands in a small calendar, at place 112, which is converted to XML and, where it is accepted, from there back to text.
--     Question, Told    what is asked, and what is answered
--     table             the readings
--     readings          the definitions answer every question of the table with the table's answer
use Rattle.std.specs.Prelude.{◌≡◌, refl, List, [], ◌∷◌, ◌++◌, map, ℕ, length, replicate, Some}
use Prim.Native.String.{String}
use Rattle.octets.specs.Ascii.{ascii}
use Rattle.calendar.specs.Calendar.{Value, date_time, text, unknown, Parameter, Property, no_more, component}
use Rattle.calendar.specs.Refusal.{number_of, Answer, accepted}
use Rattle.folding.specs.Unfold.{crlf, unfolded}
use Rattle.folding.specs.Fold.{folded_line}
use Rattle.edition.specs.declared.Edition.TheVariants.{Rfc5545}
use Rattle.text.specs.ReadText.{read_calendar}
use Rattle.calls.specs.Conversion.{Converted, result, fault}
use Rattle.calls.specs.ToText.{to_text}
use Rattle.calls.specs.Computing.{conversions_compute}
use Rattle.examples.specs.Notation.{given, in_event, event_xml}

-- ---- questions and answers

pub data Question : Type 0 where
  whole_text : List ℕ → Question  -- a text is converted
  line : List ℕ → Question  -- an event with this line is converted
  date integer float duration summary : String → Question  -- an event with this value, of that type or of SUMMARY, is converted
  stated_by : List ℕ → Question  -- which calendar does an event with this line state?
  folded : List ℕ → Question  -- how is this content line written?
  kept : List ℕ → Question  -- what does unfolding keep of these bytes?

infix 70 refused◌at◌
pub data Told : Type 0 where
  refused◌at◌ : ℕ → ℕ → Told  -- its number and its place
  both_ways : List ℕ → List ℕ → Told  -- its canonical XML, and the canonical text that this gives
  states : Answer → Told
  octets : List ℕ → Told

abbrev pub told_back : List ℕ → Converted → Told
told_back x (result t) = both_ways x t
told_back x (fault r p) = refused number_of r at p

abbrev pub told_of : Converted → Told
told_of (result x) = told_back x (to_text (Some Rfc5545) x)
told_of (fault r p) = refused number_of r at p

abbrev pub of_text : List ℕ → Told
of_text s = told_of (given s)

abbrev pub of_line : List ℕ → Told
of_line l = of_text (in_event (l ++ crlf))

abbrev pub answer_of : Question → Told
answer_of (whole_text s) = of_text s
answer_of (line l) = of_line l
answer_of (date v) = of_line (ascii "DTEND;VALUE=DATE:" ++ ascii v)
answer_of (integer v) = of_line (ascii "PRIORITY:" ++ ascii v)
answer_of (float v) = of_line (ascii "X-F;VALUE=FLOAT:" ++ ascii v)
answer_of (duration v) = of_line (ascii "DURATION:" ++ ascii v)
answer_of (summary v) = of_line (ascii "SUMMARY:" ++ ascii v)
answer_of (stated_by l) = let s = in_event (l ++ crlf) in states (read_calendar Rfc5545 s (length s))
answer_of (folded l) = octets (folded_line l)
answer_of (kept s) = octets (unfolded s)

-- accepted: the property in canonical XML, and its line in canonical text
abbrev pub as_property : List ℕ → List ℕ → Told
as_property x l = both_ways (event_xml x) (in_event (l ++ crlf))

abbrev pub is : String → String → Told
is x l = as_property (ascii x) (ascii l)

-- ---- the table

infix 68 ◌gives◌
pub data Row : Type 0 where
  ◌gives◌ : Question → Told → Row

abbrev pub asked : Row → Question
asked (q gives a) = q

abbrev pub answered : Row → Told
answered (q gives a) = a

-- so many letters a
abbrev pub letters : ℕ → List ℕ
letters n = replicate n 97

-- LATIN SMALL LETTER E WITH ACUTE
abbrev pub é : List ℕ
é = 0xC3 ∷ 0xA9 ∷ []

abbrev pub summary_xml : List ℕ → List ℕ
summary_xml s = ascii "<summary><text>" ++ s ++ ascii "</text></summary>"

-- the event with a SUMMARY whose parameter X-A has one value, which is empty
abbrev pub plain : String → Value → Property
plain n v = record { name = ascii n; parameters = []; values = v ∷ [] }

abbrev pub with_empty_parameter : Answer
with_empty_parameter = accepted (
    component (ascii "VCALENDAR") (plain "PRODID" (text (ascii "p")) ∷ plain "VERSION" (text (ascii "2.0")) ∷ [])
    (component (ascii "VEVENT") (
    plain "UID" (text (ascii "u")) ∷
    plain "DTSTAMP" (date_time (ascii "20240501T060000Z")) ∷
    plain "DTSTART" (date_time (ascii "20240504T080000")) ∷
    record {
      name = ascii "SUMMARY";
      parameters = record { name = ascii "X-A"; values = unknown [] ∷ [] } ∷ [];
      values = text (ascii "s") ∷ [];
    } ∷ [])
    no_more no_more)
    no_more)

abbrev pub table : List Row
table =
    -- Empty text: 6 at 0.
    whole_text [] gives refused 6 at 0 ∷
    -- DATE `20240229` accepted, `20230229` and `19000229` 8, `20000229` accepted.
    date "20240229" gives is "<dtend><date>2024-02-29</date></dtend>" "DTEND;VALUE=DATE:20240229" ∷
    date "20230229" gives refused 8 at 129 ∷
    date "19000229" gives refused 8 at 129 ∷
    date "20000229" gives is "<dtend><date>2000-02-29</date></dtend>" "DTEND;VALUE=DATE:20000229" ∷
    -- INTEGER `2147483648` 8; `-2147483648` accepted; `+007` is `7`; `-0` is `0`.
    integer "2147483648" gives refused 8 at 121 ∷
    integer "-2147483648" gives is "<priority><integer>-2147483648</integer></priority>" "PRIORITY:-2147483648" ∷
    integer "+007" gives is "<priority><integer>7</integer></priority>" "PRIORITY:7" ∷
    integer "-0" gives is "<priority><integer>0</integer></priority>" "PRIORITY:0" ∷
    -- FLOAT `-037.50` is `-37.5`; `.5` 8.
    float "-037.50" gives is "<x-f><float>-37.5</float></x-f>" "X-F;VALUE=FLOAT:-37.5" ∷
    float ".5" gives refused 8 at 128 ∷
    -- `PT1H5S` 8; `PT1H0M5S` accepted.
    duration "PT1H5S" gives refused 8 at 121 ∷
    duration "PT1H0M5S" gives is "<duration><duration>PT1H0M5S</duration></duration>" "DURATION:PT1H0M5S" ∷
    -- SUMMARY `a\,b\Nc` is `a,b`, LF, `c`; `a,b` 8.
    summary "a\\,b\\Nc" gives is "<summary><text>a,b\nc</text></summary>" "SUMMARY:a\\,b\\nc" ∷
    summary "a,b" gives refused 8 at 120 ∷
    -- A 75-octet line stays whole; 76 octets give 75, then a space and 1. Asked of the line alone, and of a SUMMARY, whose name and colon have 8 octets.
    folded (letters 75) gives octets (letters 75 ++ crlf) ∷
    folded (letters 76) gives octets (letters 75 ++ ascii "\r\n a" ++ crlf) ∷
    line (ascii "SUMMARY:" ++ letters 67)
    gives as_property (summary_xml (letters 67)) (ascii "SUMMARY:" ++ letters 67) ∷
    line (ascii "SUMMARY:" ++ letters 68)
    gives as_property (summary_xml (letters 68)) (ascii "SUMMARY:" ++ letters 67 ++ ascii "\r\n a") ∷
    -- 74 octets and a two-octet letter: the first line holds 74.
    folded (letters 74 ++ é) gives octets (letters 74 ++ ascii "\r\n " ++ é ++ crlf) ∷
    line (ascii "SUMMARY:" ++ letters 66 ++ é)
    gives as_property (summary_xml (letters 66 ++ é)) (ascii "SUMMARY:" ++ letters 66 ++ ascii "\r\n " ++ é) ∷
    -- C3, CRLF, space, A9 is one letter.
    kept (0xC3 ∷ 13 ∷ 10 ∷ 32 ∷ 0xA9 ∷ [])
    gives octets é ∷
    line (ascii "SUMMARY:" ++ (0xC3 ∷ 13 ∷ 10 ∷ 32 ∷ 0xA9 ∷ []))
    gives as_property (summary_xml é) (ascii "SUMMARY:" ++ é) ∷
    -- `X-A=""` and `X-A=` state the same.
    stated_by (ascii "SUMMARY;X-A=\"\":s")
    gives states with_empty_parameter ∷
    stated_by (ascii "SUMMARY;X-A=:s")
    gives states with_empty_parameter ∷
    line (ascii "SUMMARY;X-A=\"\":s")
    gives is "<summary><parameters><x-a><unknown></unknown></x-a></parameters><text>s</text></summary>" "SUMMARY;X-A=:s" ∷
    line (ascii "SUMMARY;X-A=:s")
    gives is "<summary><parameters><x-a><unknown></unknown></x-a></parameters><text>s</text></summary>" "SUMMARY;X-A=:s" ∷
    []

pub readings : map (λ (r : Row). answer_of (asked r)) table ≡ map answered table
unfolding conversions_compute
readings = refl
