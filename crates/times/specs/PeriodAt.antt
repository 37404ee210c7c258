-- PERIOD in iCalendar text read at a cursor.
--     Cuts              the contract of a step over what stands between the start and what follows it
--     Periods           the contract of a reader of what follows the slash
use Rattle.std.specs.Prelude.{◌≡◌, false, List, ℕ, Option, None, Some}
use Rattle.octets.specs.Pick.{pick}
use Rattle.octets.specs.Reading.{and_then, is_read}
use Rattle.calendar.specs.Calendar.{Value, period_explicit, period_start}
use Rattle.source.specs.Source.{rest}
use Rattle.times.specs.Letters.{cased}
use Rattle.times.specs.DateTimeAlong.{date_time_of}
use Rattle.times.specs.Duration.{duration_of}
use Rattle.times.specs.declared.period.Cut.{Cut}
use Rattle.times.specs.declared.period.Period.{Period}
use Rattle.times.specs.PeriodAlong.{Cutting, after_start, cut, uncut}

abbrev pub cut_of : ℕ → List ℕ → Option Cut → Cutting
cut_of m s (Some t) = cut t.zone (cased false (rest m s t.next))
cut_of m s None = uncut

-- what stands after the start's digits
pub record Cuts (m : ℕ) (s : List ℕ) (c : ℕ) (r : Option Cut) : Type 0 where
  pub is : after_start (cased false (rest m s c)) ≡ cut_of m s r

-- what a reader answers: the start, whether an end follows its slash, and the cursor after the slash
abbrev pub period_of : ℕ → List ℕ → Option Period → Option Value
period_of m s (Some p) =
    pick p.explicit (Some (period_explicit (date_time_of p.start) (cased false (rest m s p.at)))) (
    and_then (duration_of (cased false (rest m s p.at))) (λ d. Some (period_start (date_time_of p.start) d)))
period_of m s None = None

-- o is what was read, and the answer says so
pub record Periods (o : Option Value) (m : ℕ) (s : List ℕ) (r : Option Period) : Type 0 where
  pub is : o ≡ period_of m s r
  pub good : is_read o ≡ is_read r
