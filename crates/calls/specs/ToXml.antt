-- The call that converts iCalendar text to canonical XML: lent are the text, a work room and an output, and the edition is named by its number.
--     to_xml          what the text gives in an edition, if there is one, with a work room of a given length
--     to_xml_outcome  the answer of the call
--     to_xml_output   what the output holds afterwards
--     to_xml_work     what the work room holds afterwards
use Rattle.std.specs.Prelude.{List, ℕ, leb, length, drop, Option, None, Some}
use Rattle.calendar.specs.Refusal.{LENGTH, WORK, EDITION, limit}
use Rattle.octets.specs.Pick.{pick}
use Rattle.octets.specs.Append.{◌⊕◌}
use Rattle.folding.specs.Unfold.{unfolded}
use Rattle.edition.specs.Edition.{edition_of}
use Rattle.edition.specs.declared.Edition.{Edition}
use Rattle.text.specs.ReadText.{read_calendar}
use Rattle.xcal.specs.WriteXml.{write_document}
use Rattle.calls.specs.Conversion.{Converted, fault, converted, Outcome, outcome, contents}

-- a number that names no edition is refused after LENGTH and WORK
unfoldable pub to_xml : Option Edition → List ℕ → ℕ → Converted
to_xml (Some ed) s room = converted write_document (read_calendar ed s room)
to_xml None s room = pick (leb (length s) limit) (pick (leb (length s) room) (fault EDITION 0) (fault WORK 0)) (fault LENGTH 0)

abbrev pub to_xml_outcome : List ℕ → List ℕ → List ℕ → ℕ → Outcome
to_xml_outcome s work out edition = outcome (to_xml (edition_of edition) s (length work)) (length out)

abbrev pub to_xml_output : List ℕ → List ℕ → List ℕ → ℕ → List ℕ
to_xml_output s work out edition = contents (to_xml (edition_of edition) s (length work)) out

-- the work room keeps all its bytes after LENGTH, WORK and EDITION; after every other answer it begins with the unfolded input
abbrev pub unfolded_in : Option Edition → List ℕ → List ℕ → List ℕ
unfolded_in (Some ed) s work = unfolded s ⊕ drop (length (unfolded s)) work
unfolded_in None s work = work

unfoldable pub to_xml_work : List ℕ → List ℕ → ℕ → List ℕ
to_xml_work s work edition =
    pick (leb (length s) limit)
    (pick (leb (length s) (length work)) (unfolded_in (edition_of edition) s work) work)
    work
