-- Every value that the calls answer is below 2 ^ 32.
--     to_xml_small, to_xml_folded_small
use Rattle.std.specs.Prelude.{List, ℕ, ◌<◌, length, Option, None, Some}
use Rattle.edition.specs.Edition.{edition_of}
use Rattle.edition.specs.declared.Edition.{Edition}
use Rattle.xcal.specs.WriteXml.{write_document}
use Rattle.lengths_xml.specs.laws.Documents.{xml_short}
use Rattle.calls.specs.Conversion.{numbers, outcome}
use Rattle.calls.specs.ToXml.{to_xml, to_xml_outcome}
use Rattle.calls.specs.ToXmlFolded.{to_xml_folded_outcome}
use Rattle.read_text_whole.specs.laws.Small.{in_edition_small, no_edition_small}

pub to_xml_small : (s w d : List ℕ) (edition : ℕ) → (numbers (to_xml_outcome s w d edition)).1 < 4294967296
unfolding to_xml
to_xml_small s w d edition = go (edition_of edition)
  where
    go : (o : Option Edition) → (numbers (outcome (to_xml o s (length w)) (length d))).1 < 4294967296
    go (Some ed) = in_edition_small write_document xml_short ed s w d
    go None = no_edition_small s w d

-- as with a work room that is as long as the text
pub to_xml_folded_small : (s d : List ℕ) (edition : ℕ) → (numbers (to_xml_folded_outcome s d edition)).1 < 4294967296
to_xml_folded_small s d edition = to_xml_small s s d edition
