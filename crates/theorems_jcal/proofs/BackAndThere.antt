-- From jCal to text, to jCal, and to text again.
--     back_and_there    of an accepted call to text whose text is within the input limit: a call to jCal with this text, a work room no shorter and room
--                       enough is accepted, states the same calendar and gives its canonical jCal; where that is within the limit, a call to text with it
--                       and room enough is accepted and gives the same text, byte for byte
use Rattle.std.specs.Prelude.{◌≡◌, true, List, ℕ, ◌≤◌, length}
use Rattle.std.proofs.Common.{sym, ap, ◌∙◌}
use Rattle.calendar.specs.Calendar.{Calendar}
use Rattle.calendar.specs.Refusal.{limit}
use Rattle.text.specs.ReadText.{read_calendar}
use Rattle.text.specs.WriteText.{write_calendar}
use Rattle.text.proofs.laws.TextBack.{text_back}
use Rattle.jcal.specs.WriteJcal.{write_jcal}
use Rattle.jcal.proofs.laws.JcalAccepted.{jcal_accepted}
use Rattle.edition.specs.declared.Edition.{Edition}
use Rattle.theorems.specs.Calls.{Call, States, TextCall}
use Rattle.theorems.proofs.ThereAndBack.{within_too}
use Rattle.theorems_jcal.specs.Calls.{is_accepted, jcal_of, is_text_accepted, text_of, StatesJcal}
use Rattle.theorems_jcal.proofs.laws.Calls.{states_accepted, text_is}
use Rattle.theorems_jcal.proofs.ThereAndBack.{there_and_back}

module _ (ed : Edition) where
  text_states : (t : TextCall) (c : Calendar) (k : Call) → StatesJcal ed t c → k.input ≡ write_calendar ed c → length (write_calendar ed c) ≤ limit → length (write_calendar ed c) ≤ length k.work → States ed k c
  text_states t c k s i l w = ap (λ (x : List ℕ). read_calendar ed x (length k.work)) i ∙ text_back ed c (length k.work) (jcal_accepted ed t.input c s) l w

  pub back_and_there : (t : TextCall) (c : Calendar) → is_text_accepted ed t ≡ true → StatesJcal ed t c → length (text_of ed t) ≤ limit →
      (k : Call) → k.input ≡ text_of ed t → length (text_of ed t) ≤ length k.work → length (write_jcal c) ≤ length k.output →
      (is_accepted ed k ≡ true)
      × States ed k c
      × (jcal_of ed k ≡ write_jcal c)
      × ((again : TextCall) → again.input ≡ jcal_of ed k → length (jcal_of ed k) ≤ limit → length (text_of ed t) ≤ length again.output →
      (is_text_accepted ed again ≡ true) × (text_of ed again ≡ text_of ed t))
  back_and_there t c h s l k i w r =
      let x : text_of ed t ≡ write_calendar ed c = text_is ed t c h s in
      let q : States ed k c = text_states t c k s (i ∙ x) (within_too (text_of ed t) (write_calendar ed c) limit x l) (within_too (text_of ed t) (write_calendar ed c) (length k.work) x w) in
      let a = states_accepted ed k c q r in (
        a.0,
        q,
        a.1,
        λ again j m o.
            let b = there_and_back ed k c a.0 q m again j (within_too (text_of ed t) (write_calendar ed c) (length again.output) x o) in
            (b.0, b.1 ∙ sym x),
      )
