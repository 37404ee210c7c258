-- One name that opens every shut definition of the calls of jCal: `unfolding jcal_calls_compute`.
use Rattle.std.specs.Prelude.{ℕ}
use Rattle.text.specs.Computing.{ical_compute}
use Rattle.jcal.specs.Computing.{jcal_compute}
use Rattle.calls.specs.Computing.{conversions_compute}
use Rattle.calls_jcal.specs.ToJcal.{to_jcal}
use Rattle.calls_jcal.specs.JcalToText.{jcal_to_text}

unfoldable pub jcal_calls_compute : ℕ
unfolding ical_compute jcal_compute conversions_compute to_jcal jcal_to_text
jcal_calls_compute = 0
