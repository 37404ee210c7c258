-- The call that converts xCal to canonical iCalendar text: lent are the document and an output, and the edition of the text is named by its number.
--     to_text          what the document gives in an edition, if there is one
--     to_text_outcome  the answer of the call
--     to_text_output   what the output holds afterwards
use Rattle.std.specs.Prelude.{List, ℕ, leb, length, Option, None, Some}
use Rattle.octets.specs.Pick.{pick}
use Rattle.calendar.specs.Refusal.{LENGTH, EDITION, limit}
use Rattle.edition.specs.Edition.{edition_of}
use Rattle.edition.specs.declared.Edition.{Edition}
use Rattle.xcal.specs.ReadDocument.{read_document}
use Rattle.text.specs.WriteText.{write_calendar}
use Rattle.calls.specs.Conversion.{Converted, fault, converted, Outcome, outcome, contents}

-- a number that names no edition is refused after LENGTH
unfoldable pub to_text : Option Edition → List ℕ → Converted
to_text (Some ed) s = converted (write_calendar ed) (read_document ed s)
to_text None s = pick (leb (length s) limit) (fault EDITION 0) (fault LENGTH 0)

abbrev pub to_text_outcome : List ℕ → List ℕ → ℕ → Outcome
to_text_outcome s out edition = outcome (to_text (edition_of edition) s) (length out)

abbrev pub to_text_output : List ℕ → List ℕ → ℕ → List ℕ
to_text_output s out edition = contents (to_text (edition_of edition) s) out
