-- From text to jCal, back to text, and to jCal again.
--     there_and_back    of an accepted call whose jCal is within the input limit: a call to text with this jCal and room enough is accepted and gives the
--                       canonical text of the same calendar; where that text is within the limit, a call to jCal with it, a work room no shorter and
--                       room enough is accepted and gives the same jCal, byte for byte
use Rattle.std.specs.Prelude.{◌≡◌, true, ℕ, ◌≤◌, length, Some}
use Rattle.std.proofs.Common.{sym, ◌∙◌}
use Rattle.std.proofs.Math.Path.{ap}
use mathlib.Core.List.{List}
use Rattle.calendar.specs.Calendar.{Calendar}
use Rattle.calendar.specs.Refusal.{limit}
use Rattle.text.specs.ReadText.{read_calendar}
use Rattle.text.specs.WriteText.{write_calendar}
use Rattle.text.proofs.laws.AcceptedText.{accepted_valid, accepted_back}
use Rattle.jcal.specs.ReadJcal.{read_jcal}
use Rattle.jcal.specs.WriteJcal.{write_jcal}
use Rattle.jcal.proofs.laws.JcalBack.{jcal_back}
use Rattle.calls.specs.Conversion.{result, converted}
use Rattle.calls_jcal.specs.JcalToText.{jcal_to_text}
use Rattle.edition.specs.declared.Edition.{Edition}
use Rattle.theorems.specs.Calls.{Call, States, TextCall}
use Rattle.theorems.proofs.ThereAndBack.{within_too}
use Rattle.theorems.proofs.laws.Calls.{result_given}
use Rattle.theorems_jcal.specs.Calls.{is_accepted, jcal_of, is_text_accepted, text_of}
use Rattle.theorems_jcal.proofs.laws.Calls.{states_accepted, jcal_is}

module _ (ed : Edition) where
  jcal_text : (k : Call) (c : Calendar) (s : List ℕ) → States ed k c → s ≡ write_jcal c → length s ≤ limit → jcal_to_text (Some ed) s ≡ result (write_calendar ed c)
  unfolding jcal_to_text
  jcal_text k c s t e l =
      ap (λ (x : List ℕ). converted (write_calendar ed) (read_jcal ed x)) e
      ∙ ap (converted (write_calendar ed)) (jcal_back ed c (accepted_valid ed k.input (length k.work) c t) (within_too s (write_jcal c) limit e l))

  text_again : (k : Call) (c : Calendar) (again : Call) → States ed k c → again.input ≡ write_calendar ed c → length again.input ≤ limit → length again.input ≤ length again.work → States ed again c
  text_again k c again t e l r =
      ap (λ (x : List ℕ). read_calendar ed x (length again.work)) e
      ∙ accepted_back ed k.input (length k.work) c t (length again.work) (within_too again.input (write_calendar ed c) limit e l) (within_too again.input (write_calendar ed c) (length again.work) e r)

  pub there_and_back : (k : Call) (c : Calendar) → is_accepted ed k ≡ true → States ed k c → length (jcal_of ed k) ≤ limit →
      (t : TextCall) → t.input ≡ jcal_of ed k → length (write_calendar ed c) ≤ length t.output →
      (is_text_accepted ed t ≡ true)
      × (text_of ed t ≡ write_calendar ed c)
      × ((again : Call) → again.input ≡ text_of ed t → length (text_of ed t) ≤ limit → length (text_of ed t) ≤ length again.work → length (jcal_of ed k) ≤ length again.output →
      (is_accepted ed again ≡ true) × (jcal_of ed again ≡ jcal_of ed k))
  there_and_back k c h s l t i r =
      let x : jcal_of ed k ≡ write_jcal c = jcal_is ed k c h s in
      let a = result_given (jcal_to_text (Some ed) t.input) (write_calendar ed c) t.output (jcal_text k c t.input s (i ∙ x) (within_too (jcal_of ed k) t.input limit (sym i) l)) r in (
        a.0,
        a.1,
        λ again j m w o.
            let q = text_again k c again s (j ∙ a.1) (within_too (text_of ed t) again.input limit (sym j) m) (within_too (text_of ed t) again.input (length again.work) (sym j) w) in
            let b = states_accepted ed again c q (within_too (jcal_of ed k) (write_jcal c) (length again.output) x o) in
            (b.0, b.1 ∙ sym x),
      )
