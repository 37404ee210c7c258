-- Places of faults, by computation: each line stands in a calendar, at place 17 of the text.
use Rattle.std.specs.Prelude.{◌≡◌, refl, List, [], ◌∷◌, ◌++◌, map, ℕ, length}
use Prim.Native.String.{String}
use Rattle.octets.specs.Ascii.{ascii}
use Rattle.calendar.specs.Refusal.{LINE, NAME, FRAME, PARAMETER, VALUE, COUNT, Verdict, refuse}
use Rattle.edition.specs.declared.Edition.TheVariants.{Rfc5545}
use Rattle.text.specs.ReadText.{text_verdict}
use Rattle.text.specs.Computing.{ical_compute}

infix 68 ◌is_refused◌
pub data Row : Type 0 where
  ◌is_refused◌ : String → Verdict → Row

abbrev text_with : String → List ℕ
text_with l = ascii "BEGIN:VCALENDAR\r\n" ++ (ascii l ++ ascii "\r\n")

abbrev verdict_on : Row → Verdict
verdict_on (l is_refused v) = text_verdict Rfc5545 (text_with l) (length (text_with l))

abbrev answered : Row → Verdict
answered (l is_refused v) = v

abbrev table : List Row
table =
    -- 4, 5, 6 and 9: the line's first byte
    "PRODID" is_refused refuse LINE 17 ∷
    "X-A;1A=b:c" is_refused refuse NAME 17 ∷
    "UID;RSVP=TRUE:a" is_refused refuse FRAME 17 ∷
    "END:VCALENDAR" is_refused refuse COUNT 17 ∷
    -- 7: the name of the leftmost faulty parameter
    "X-A;RSVP=MAYBE;TZID=a,b:1" is_refused refuse PARAMETER 21 ∷
    "X-A;CN=a;TZID=a,b:1" is_refused refuse PARAMETER 26 ∷
    -- one that is repeated, where it comes again
    "PRODID;X-A=1;x-a=2:p" is_refused refuse PARAMETER 30 ∷
    -- a fold before the name, and one in it
    "PRODID;\r\n R\r\n SVP=TRUE:p" is_refused refuse PARAMETER 27 ∷
    -- ENCODING, judged by a VALUE behind it; missing, at the value
    "X-A;CN=a;ENCODING=8BIT;VALUE=BINARY:AAAA" is_refused refuse PARAMETER 26 ∷
    "X-A;VALUE=BINARY:AAAA" is_refused refuse PARAMETER 34 ∷
    "X-A;VALUE=X-B;RSVP=1:a" is_refused refuse PARAMETER 21 ∷
    -- on BEGIN
    "BEGIN;X-A=1;X-B=2:VEVENT" is_refused refuse PARAMETER 23 ∷
    -- 8: the value; where that is empty, the line's end
    "VERSION:2.1" is_refused refuse VALUE 25 ∷
    "VERSION;X-A=\":\":\r\n \r\n " is_refused refuse VALUE 39 ∷
    []

faults_placed : map verdict_on table ≡ map answered table
unfolding ical_compute
faults_placed = refl
