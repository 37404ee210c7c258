-- Calls of the engine that reads a text with its folds in place are calls of the other, with a work room that is long enough.
--     folded_by_number    the edition that a call's number names
--     roomy k             the call of the other engine with a work room as long as the text: it is accepted where k is, gives the same XML and states the same
--                         calendar, by its definition
--     folded_same         any work room that is no shorter does as well
use Rattle.std.specs.Prelude.{◌≡◌, List, ℕ, ◌≤◌, length, take, Some}
use Rattle.std.proofs.Common.{ap}
use Rattle.edition.specs.Edition.{edition_number}
use Rattle.edition.specs.laws.Carets.{number_back}
use Rattle.edition.specs.declared.Edition.{Edition}
use Rattle.calls.specs.Conversion.{Converted, outcome, contents}
use Rattle.calls.specs.ToXml.{to_xml}
use Rattle.calls.specs.ToXmlFolded.{to_xml_folded_outcome, to_xml_folded_output}
use Rattle.theorems.specs.Calls.{bytes_of, Call, answer_of, xml_of}
use Rattle.theorems.specs.FoldedCalls.{FoldedCall, folded_answer_of, folded_xml_of}
use Rattle.theorems.proofs.laws.Engines.{room_is_room}

pub folded_by_number : (ed : Edition) (s d : List ℕ) →
    (to_xml_folded_outcome s d (edition_number ed) ≡ outcome (to_xml (Some ed) s (length s)) (length d)) × (to_xml_folded_output s d (edition_number ed) ≡ contents (to_xml (Some ed) s (length s)) d)
folded_by_number ed s d = let e = number_back ed in (rw e, rw e)

abbrev pub with_work : FoldedCall → List ℕ → Call
with_work k w = record { input = k.input; work = w; output = k.output }

abbrev pub roomy : FoldedCall → Call
roomy k = with_work k k.input

pub folded_same : (ed : Edition) (k : FoldedCall) (w : List ℕ) → length k.input ≤ length w →
    (folded_answer_of ed k ≡ answer_of ed (with_work k w)) × (folded_xml_of ed k ≡ xml_of ed (with_work k w))
folded_same ed k w h =
    let same = room_is_room (Some ed) k.input (length w) h in (
      ap (λ (c : Converted). outcome c (length k.output)) same,
      ap (λ (c : Converted). take (bytes_of (outcome c (length k.output))) (contents c k.output)) same,
    )
