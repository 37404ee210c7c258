-- The call that converts iCalendar text to canonical jCal: lent are the text, a work room and an output, as to XML, and the edition is named by its number.
--     to_jcal          what the text gives in an edition, if there is one, with a work room of a given length
--     to_jcal_outcome  the answer of the call
--     to_jcal_output   what the output holds afterwards
--     to_jcal_work     what the work room holds afterwards: what it holds after the call to XML
use Rattle.std.specs.Prelude.{List, ℕ, leb, length, Option, None, Some}
use Rattle.octets.specs.Pick.{pick}
use Rattle.calendar.specs.Refusal.{LENGTH, WORK, EDITION, limit}
use Rattle.edition.specs.Edition.{edition_of}
use Rattle.edition.specs.declared.Edition.{Edition}
use Rattle.text.specs.ReadText.{read_calendar}
use Rattle.jcal.specs.WriteJcal.{write_jcal}
use Rattle.calls.specs.Conversion.{Converted, fault, converted, Outcome, outcome, contents}
use Rattle.calls.specs.ToXml.{to_xml_work}

-- a number that names no edition is refused after LENGTH and WORK
unfoldable pub to_jcal : Option Edition → List ℕ → ℕ → Converted
to_jcal (Some ed) s room = converted write_jcal (read_calendar ed s room)
to_jcal None s room = pick (leb (length s) limit) (pick (leb (length s) room) (fault EDITION 0) (fault WORK 0)) (fault LENGTH 0)

abbrev pub to_jcal_outcome : List ℕ → List ℕ → List ℕ → ℕ → Outcome
to_jcal_outcome s work out edition = outcome (to_jcal (edition_of edition) s (length work)) (length out)

abbrev pub to_jcal_output : List ℕ → List ℕ → List ℕ → ℕ → List ℕ
to_jcal_output s work out edition = contents (to_jcal (edition_of edition) s (length work)) out

abbrev pub to_jcal_work : List ℕ → List ℕ → ℕ → List ℕ
to_jcal_work s work edition = to_xml_work s work edition
