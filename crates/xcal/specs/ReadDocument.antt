-- The answer for an xCal document, whose text is to be of an edition: the calendar that it states, or its refusal with its place.
--     document_verdict  refusals 1, 3 and 11 over the whole document, then the first fault in it
--     read_document     the answer
use Rattle.std.specs.Prelude.{List, ℕ, leb, length}
use Rattle.octets.specs.Pick.{pick}
use Rattle.calendar.specs.Refusal.{LENGTH, Verdict, refuse, ◌otherwise◌, Answer, answer, limit, characters}
use Rattle.edition.specs.declared.Edition.{Edition}
use Rattle.utf8.specs.Utf8.{first_bad}
use Rattle.xml.specs.WellFormed.{xml_verdict}
use Rattle.xml.specs.Nodes.{document_nodes}
use Rattle.xcal.specs.ComponentNodes.{root_verdict, read_root}

unfoldable pub document_verdict : Edition → List ℕ → Verdict
document_verdict ed s =
    pick (leb (length s) limit)
    (characters (first_bad s) otherwise xml_verdict s otherwise root_verdict ed (document_nodes s))
    (refuse LENGTH 0)

unfoldable pub read_document : Edition → List ℕ → Answer
read_document ed s = answer (document_verdict ed s) (read_root (document_nodes s))
