-- The two ways from text to XML: one unfolds the text into a work room, the other reads it with its folds in place.
--     same_engines    for every input, output and edition, and every work room no shorter than the input, both have the same answer, places included, and leave the same output
--     never_work      the second never answers WORK
use Rattle.std.specs.Prelude.{◌≡◌, List, ℕ, ◌≤◌, length}
use Rattle.std.proofs.Common.{ap}
use Rattle.calendar.specs.Refusal.{WORK}
use Rattle.edition.specs.Edition.{edition_of}
use Rattle.calls.specs.Conversion.{Converted, refusal, outcome, contents}
use Rattle.calls.specs.ToXml.{to_xml_outcome, to_xml_output}
use Rattle.calls.specs.ToXmlFolded.{to_xml_folded_outcome, to_xml_folded_output}
use Rattle.theorems.proofs.laws.Engines.{room_is_room, workless}

module _ (s d : List ℕ) (edition : ℕ) where
  pub same_engines : (work : List ℕ) → length s ≤ length work →
      (to_xml_folded_outcome s d edition ≡ to_xml_outcome s work d edition) × (to_xml_folded_output s d edition ≡ to_xml_output s work d edition)
  same_engines work h =
      let same = room_is_room (edition_of edition) s (length work) h in
      (ap (λ (c : Converted). outcome c (length d)) same, ap (λ (c : Converted). contents c d) same)

  pub never_work : (p : ℕ) → to_xml_folded_outcome s d edition ≡ refusal WORK p → ⊥
  never_work p e = workless (edition_of edition) s (length d) p e
