-- The call that converts jCal to canonical iCalendar text: lent are the jCal and an output, as from XML, and the edition of the text is named by its number.
--     jcal_to_text          what the jCal gives in an edition, if there is one
--     jcal_to_text_outcome  the answer of the call
--     jcal_to_text_output   what the output holds afterwards
use Rattle.std.specs.Prelude.{List, ℕ, leb, length, Option, None, Some}
use Rattle.octets.specs.Pick.{pick}
use Rattle.calendar.specs.Refusal.{LENGTH, EDITION, limit}
use Rattle.edition.specs.Edition.{edition_of}
use Rattle.edition.specs.declared.Edition.{Edition}
use Rattle.text.specs.WriteText.{write_calendar}
use Rattle.jcal.specs.ReadJcal.{read_jcal}
use Rattle.calls.specs.Conversion.{Converted, fault, converted, Outcome, outcome, contents}

-- a number that names no edition is refused after LENGTH
unfoldable pub jcal_to_text : Option Edition → List ℕ → Converted
jcal_to_text (Some ed) s = converted (write_calendar ed) (read_jcal ed s)
jcal_to_text None s = pick (leb (length s) limit) (fault EDITION 0) (fault LENGTH 0)

abbrev pub jcal_to_text_outcome : List ℕ → List ℕ → ℕ → Outcome
jcal_to_text_outcome s out edition = outcome (jcal_to_text (edition_of edition) s) (length out)

abbrev pub jcal_to_text_output : List ℕ → List ℕ → ℕ → List ℕ
jcal_to_text_output s out edition = contents (jcal_to_text (edition_of edition) s) out
