-- Calls to XML of the engine that reads a text with its folds in place, as whole: it is lent no work room.
--     FoldedCall          a call: the text and an output, with whatever bytes this holds
--     is_folded_accepted  its answer is a number of bytes written
--     folded_xml_of       these bytes, from the front of its output
--     FoldedStates k c    its text states the calendar c (without any writer)
use Rattle.std.specs.Prelude.{◌≡◌, Bool, List, ℕ, length, take, Some}
use Rattle.calendar.specs.Calendar.{Calendar}
use Rattle.calendar.specs.Refusal.{accepted}
use Rattle.edition.specs.declared.Edition.{Edition}
use Rattle.text.specs.ReadText.{read_calendar}
use Rattle.calls.specs.Conversion.{Outcome, outcome, contents}
use Rattle.calls.specs.ToXml.{to_xml}
use Rattle.theorems.specs.Calls.{is_written, bytes_of}

pub record FoldedCall : Type 0 where
  pub input : List ℕ
  pub output : List ℕ

-- all that follows is of calls in one edition; a call names it by its number (folded_by_number)
module _ (ed : Edition) where
  abbrev pub folded_answer_of : FoldedCall → Outcome
  folded_answer_of k = outcome (to_xml (Some ed) k.input (length k.input)) (length k.output)

  abbrev pub is_folded_accepted : FoldedCall → Bool
  is_folded_accepted k = is_written (folded_answer_of k)

  abbrev pub folded_xml_of : FoldedCall → List ℕ
  folded_xml_of k = take (bytes_of (folded_answer_of k)) (contents (to_xml (Some ed) k.input (length k.input)) k.output)

  abbrev pub FoldedStates : FoldedCall → Calendar → Type 0
  FoldedStates k c = read_calendar ed k.input (length k.input) ≡ accepted c
