-- The answer for a jCal text in an edition: the calendar that it states, or its refusal with its place.
--     jcal_verdict   refusals 1, 3 and 12 over the whole text, then the first fault in it
--     read_jcal      the answer
use Rattle.std.specs.Prelude.{false, List, ℕ, leb, length, Option, None, Some}
use Rattle.octets.specs.Pick.{pick}
use Rattle.calendar.specs.Levels.{levels}
use Rattle.calendar.specs.Refusal.{LENGTH, JSON, Verdict, fine, refuse, ◌otherwise◌, Answer, answer, limit, characters}
use Rattle.utf8.specs.Utf8.{first_bad}
use Rattle.edition.specs.declared.Edition.{Edition}
use Rattle.validity.specs.ValidCalendar.{at_top}
use Rattle.json_text.specs.Bytes.{most_open}
use Rattle.json_text.specs.Check.{verdict}
use Rattle.json_text.specs.Tree.{value_of}
use Rattle.jcal.specs.Components.{components_verdict, read_calendars, calendars_in}

abbrev pub json : Option ℕ → Verdict
json None = fine
json (Some p) = refuse JSON p

unfoldable pub jcal_verdict : Edition → List ℕ → Verdict
jcal_verdict ed s =
    pick (leb (length s) limit)
    (characters (first_bad s) otherwise json (verdict most_open s) otherwise components_verdict ed (calendars_in (value_of s)) at_top levels false)
    (refuse LENGTH 0)

unfoldable pub read_jcal : Edition → List ℕ → Answer
read_jcal ed s = answer (jcal_verdict ed s) (read_calendars (calendars_in (value_of s)))
