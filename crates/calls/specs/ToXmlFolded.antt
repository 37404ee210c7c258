-- The call that converts iCalendar text to canonical XML and reads it with its folds in place: lent are the text and an output, and the edition is named by its number.
-- It answers what `to_xml` gives with a work room as long as the text: it has none, and never gives WORK.
--     to_xml_folded_outcome  the answer of the call
--     to_xml_folded_output   what the output holds afterwards
use Rattle.std.specs.Prelude.{List, ℕ, length}
use Rattle.edition.specs.Edition.{edition_of}
use Rattle.calls.specs.Conversion.{Outcome, outcome, contents}
use Rattle.calls.specs.ToXml.{to_xml}

abbrev pub to_xml_folded_outcome : List ℕ → List ℕ → ℕ → Outcome
to_xml_folded_outcome s out edition = outcome (to_xml (edition_of edition) s (length s)) (length out)

abbrev pub to_xml_folded_output : List ℕ → List ℕ → ℕ → List ℕ
to_xml_folded_output s out edition = contents (to_xml (edition_of edition) s (length s)) out
