-- What the jCal of calls says of their texts.
--     same_jcal    two accepted calls give the same jCal exactly where they state the same calendar
-- Lent buffers may hold any bytes before a call.
use Rattle.std.specs.Prelude.{◌≡◌, ◌↔◌, true}
use Rattle.std.proofs.Common.{sym, ap, ◌∙◌}
use Rattle.calendar.specs.Refusal.{accepted}
use Rattle.edition.specs.declared.Edition.{Edition}
use Rattle.jcal.specs.WriteJcal.{write_jcal}
use Rattle.jcal.proofs.laws.JcalBack.{jcal_injective}
use Rattle.theorems.specs.Calls.{Call, SameCalendar}
use Rattle.theorems.proofs.laws.Calls.{states_one}
use Rattle.theorems_jcal.specs.Calls.{is_accepted, jcal_of}
use Rattle.theorems_jcal.proofs.laws.Calls.{given}

pub same_jcal : (ed : Edition) (k l : Call) → is_accepted ed k ≡ true → is_accepted ed l ≡ true → (jcal_of ed k ≡ jcal_of ed l) ↔ SameCalendar ed k l
same_jcal ed k l h j =
    let g = given ed k h in
    let f = given ed l j in (
      λ e. (g.calendar, g.states, f.states ∙ ap accepted (sym (jcal_injective ed g.calendar f.calendar g.valid f.valid (sym g.jcal ∙ e ∙ f.jcal)))),
      λ s. g.jcal ∙ ap write_jcal (states_one ed k g.calendar s.0 g.states s.1 ∙ states_one ed l s.0 f.calendar s.2 f.states) ∙ sym f.jcal,
    )
