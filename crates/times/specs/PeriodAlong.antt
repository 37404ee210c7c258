-- PERIOD in iCalendar text along its pattern: a date-time, Z or not, a slash, and what stands after it.
--     after_start       what stands after the start's digits: its zone and what follows the slash
--     period_upper      the period of a start and what follows its slash, in capitals
use Rattle.std.specs.Prelude.{List, [], ◌∷◌, ℕ, eqb, Option, None, Some}
use Rattle.octets.specs.Pick.{pick}
use Rattle.octets.specs.Reading.{and_then}
use Rattle.calendar.specs.Calendar.{Value, period_explicit, period_start}
use Rattle.times.specs.Pattern.{Followed, reached, lost}
use Rattle.times.specs.DateTime.{is_date_time}
use Rattle.times.specs.DateTimeAlong.{moment_by}
use Rattle.times.specs.Duration.{duration_of}
use Rattle.times.specs.declared.time.Zone.{Zone}
use Rattle.times.specs.declared.time.Zone.TheVariants.{Local, Utc}

pub data Cutting : Type 0 where
  cut : Zone → List ℕ → Cutting
  uncut : Cutting

-- a slash;   47 is /
unfoldable pub slashed : Zone → List ℕ → Cutting
slashed z [] = uncut
slashed z (b ∷ l) = pick (eqb b 47) (cut z l) uncut

-- a slash, or Z and a slash;   90 is Z
unfoldable pub after_start : List ℕ → Cutting
after_start [] = uncut
after_start (b ∷ l) = pick (eqb b 47) (cut Local l) (pick (eqb b 90) (slashed Utc l) uncut)

unfoldable pub period_upper : List ℕ → List ℕ → Option Value
period_upper start l = pick (is_date_time l) (Some (period_explicit start l)) (and_then (duration_of l) (λ d. Some (period_start start d)))

unfoldable pub period_by : ℕ → Zone → List ℕ → Option Value
period_by n z l = and_then (moment_by n z) (λ start. period_upper start l)

unfoldable pub cut_period : ℕ → Cutting → Option Value
cut_period n uncut = None
cut_period n (cut z l) = period_by n z l

unfoldable pub period_after : Followed → Option Value
period_after lost = None
period_after (reached n r) = cut_period n (after_start r)
