-- Calls of jCal, as whole: what is lent to each is what is lent to the call of XML; whether it is accepted, and what it gives.
--     is_accepted      the answer of a call to jCal is a number of bytes written
--     jcal_of          these bytes, from the front of its output
--     is_text_accepted, text_of, StatesJcal  the same of a call from jCal to text
-- What the text of a call to jCal states, and that two state the same: States, SameCalendar of crate theorems.
use Rattle.std.specs.Prelude.{◌≡◌, Bool, List, ℕ, length, take, Some}
use Rattle.calendar.specs.Calendar.{Calendar}
use Rattle.calendar.specs.Refusal.{accepted}
use Rattle.edition.specs.declared.Edition.{Edition}
use Rattle.jcal.specs.ReadJcal.{read_jcal}
use Rattle.calls.specs.Conversion.{Outcome, outcome, contents}
use Rattle.calls_jcal.specs.ToJcal.{to_jcal}
use Rattle.calls_jcal.specs.JcalToText.{jcal_to_text}
use Rattle.theorems.specs.Calls.{is_written, bytes_of, Call, TextCall}

-- all that follows is of calls in one edition; a call names it by its number (calls_by_number)
module _ (ed : Edition) where
  -- ---- calls to jCal

  abbrev pub answer_of : Call → Outcome
  answer_of k = outcome (to_jcal (Some ed) k.input (length k.work)) (length k.output)

  abbrev pub is_accepted : Call → Bool
  is_accepted k = is_written (answer_of k)

  abbrev pub jcal_of : Call → List ℕ
  jcal_of k = take (bytes_of (answer_of k)) (contents (to_jcal (Some ed) k.input (length k.work)) k.output)

  -- ---- calls to text

  abbrev pub text_answer_of : TextCall → Outcome
  text_answer_of t = outcome (jcal_to_text (Some ed) t.input) (length t.output)

  abbrev pub is_text_accepted : TextCall → Bool
  is_text_accepted t = is_written (text_answer_of t)

  abbrev pub text_of : TextCall → List ℕ
  text_of t = take (bytes_of (text_answer_of t)) (contents (jcal_to_text (Some ed) t.input) t.output)

  -- its jCal states the calendar
  abbrev pub StatesJcal : TextCall → Calendar → Type 0
  StatesJcal t c = read_jcal ed t.input ≡ accepted c
