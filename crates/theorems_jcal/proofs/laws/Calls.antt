-- Calls of jCal: what an accepted one states, and what it gives.
--     calls_by_number  the edition that a call's number names
--     given            what an accepted call to jCal states, and that its jCal is that of this
--     states_accepted  a call whose text states a calendar, with room for its jCal, is accepted
--     jcal_is, text_is what is given of a calendar that is stated
use Rattle.std.specs.Prelude.{◌≡◌, true, List, ℕ, ◌≤◌, length, Some}
use Rattle.std.proofs.Common.{sym, ◌∙◌}
use Rattle.std.proofs.Math.Path.{ap}
use Rattle.calendar.specs.Calendar.{Calendar}
use Rattle.validity.specs.ValidCalendar.{is_valid}
use Rattle.text.specs.ReadText.{read_calendar}
use Rattle.text.specs.WriteText.{write_calendar}
use Rattle.text.proofs.laws.AcceptedText.{accepted_valid}
use Rattle.jcal.specs.ReadJcal.{read_jcal}
use Rattle.jcal.specs.WriteJcal.{write_jcal}
use Rattle.calls.specs.Conversion.{converted, outcome, contents}
use Rattle.calls_jcal.specs.ToJcal.{to_jcal, to_jcal_outcome, to_jcal_output}
use Rattle.calls_jcal.specs.JcalToText.{jcal_to_text, jcal_to_text_outcome, jcal_to_text_output}
use Rattle.edition.specs.Edition.{edition_number}
use Rattle.edition.specs.laws.Carets.{number_back}
use Rattle.edition.specs.declared.Edition.{Edition}
use Rattle.theorems.specs.Calls.{Call, States, TextCall}
use Rattle.theorems.proofs.laws.Calls.{result_given, accepted_same, written_read, states_one}
use Rattle.theorems_jcal.specs.Calls.{is_accepted, jcal_of, is_text_accepted, text_of, StatesJcal}

pub calls_by_number : (ed : Edition) (s w d : List ℕ) →
    (to_jcal_outcome s w d (edition_number ed) ≡ outcome (to_jcal (Some ed) s (length w)) (length d)) × (to_jcal_output s w d (edition_number ed) ≡ contents (to_jcal (Some ed) s (length w)) d)
    × (jcal_to_text_outcome s d (edition_number ed) ≡ outcome (jcal_to_text (Some ed) s) (length d)) × (jcal_to_text_output s d (edition_number ed) ≡ contents (jcal_to_text (Some ed) s) d)
calls_by_number ed s w d = let e = number_back ed in (rw e, rw e, rw e, rw e)

module _ (ed : Edition) where
  pub record Given (k : Call) : Type 0 where
    pub calendar : Calendar
    pub states : States ed k calendar
    pub valid : is_valid ed calendar ≡ true
    pub jcal : jcal_of ed k ≡ write_jcal calendar

  pub given : (k : Call) → is_accepted ed k ≡ true → Given k
  unfolding to_jcal
  given k h =
      let r = written_read ed write_jcal (read_calendar ed k.input (length k.work)) k.output h in
      record { calendar = r.calendar; states = r.states; valid = accepted_valid ed k.input (length k.work) r.calendar r.states; jcal = r.bytes }

  pub states_accepted : (k : Call) (c : Calendar) → States ed k c → length (write_jcal c) ≤ length k.output → (is_accepted ed k ≡ true) × (jcal_of ed k ≡ write_jcal c)
  unfolding to_jcal
  states_accepted k c s l = result_given (to_jcal (Some ed) k.input (length k.work)) (write_jcal c) k.output (ap (converted write_jcal) s) l

  pub jcal_is : (k : Call) (c : Calendar) → is_accepted ed k ≡ true → States ed k c → jcal_of ed k ≡ write_jcal c
  jcal_is k c h s = let g = given k h in g.jcal ∙ ap write_jcal (states_one ed k g.calendar c g.states s)

  pub text_is : (t : TextCall) (c : Calendar) → is_text_accepted ed t ≡ true → StatesJcal ed t c → text_of ed t ≡ write_calendar ed c
  unfolding jcal_to_text
  text_is t c h s =
      let r = written_read ed (write_calendar ed) (read_jcal ed t.input) t.output h in
      r.bytes ∙ ap (write_calendar ed) (accepted_same r.calendar c (sym r.states ∙ s))
