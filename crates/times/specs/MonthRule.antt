-- The month rule, shown: in every month DATE accepts exactly the days from 1 to the month's length by the Gregorian calendar, in the years 0000 to 9999, in text
-- and in XML. The length is `days_in_month` of crate gregorian.
--     month_rule        any year, month and day: the text of the date is read exactly when the month is one of twelve and the day is from 1 to its length
--     month_days        the same within a month
--     only_days         and nothing else is a DATE
--     date_time_rule    the same of the date of a DATE-TIME
-- The dates of DATE-TIME and PERIOD are read by the same function: laws/DateParts. So is that of UNTIL: `until_parts` (recur/specs/laws/EnddateLaws).
use Rattle.std.specs.Prelude.{◌≡◌, ◌↔◌, true, List, ◌∷◌, ℕ, ◌≤◌, ◌<◌}
use Rattle.std.proofs.Common.{◌∙◌, arith, le-leb}
use Rattle.octets.specs.Pick.{◌and◌, within}
use Rattle.octets.specs.Append.{◌⊕◌}
use Rattle.octets.specs.Reading.{is_read}
use Rattle.octets.specs.laws.Reading.{read_some}
use Rattle.calendar.specs.Calendar.{Format}
use Rattle.gregorian.specs.Month.{days_in_month}
use Rattle.times.specs.Date.{read_date}
use Rattle.times.specs.Time.{read_time}
use Rattle.times.specs.DateTime.{read_date_time}
use Rattle.times.specs.DateText.{date_text, DayOf}
use Rattle.times.specs.laws.MonthRule.{text_rule, day_found, day_read}
use Rattle.times.specs.laws.DateParts.{moment_parts}

-- f is the format, text or XML; m and d are any two digits
pub month_rule : (f : Format) (y m d : ℕ) → y < 10000 → m < 100 → d < 100 →
    is_read (read_date f (date_text f y m d)) ≡ (within 1 12 m and within 1 (days_in_month y m) d)
month_rule f y m d h k l = text_rule f y m d h k l

pub month_days : (f : Format) (y m d : ℕ) → y < 10000 → 1 ≤ m → m ≤ 12 → d < 100 →
    is_read (read_date f (date_text f y m d)) ≡ within 1 (days_in_month y m) d
unfolding ◌and◌
month_days f y m d h k k' l = month_rule f y m d h (omega arith) l ∙ rw (le-leb 1 m k, le-leb m 12 k')

-- a text is a DATE exactly when it is the text of a day of the calendar
pub only_days : (f : Format) (s : List ℕ) → (is_read (read_date f s) ≡ true) ↔ DayOf f s
only_days f s = (λ h. let v = read_some (read_date f s) h in day_found f s v.0 v.1, day_read f s)

-- 84 is T, and t are any characters
pub date_time_rule : (f : Format) (y m d : ℕ) (t : List ℕ) → y < 10000 → m < 100 → d < 100 →
    is_read (read_date_time f (date_text f y m d ⊕ (84 ∷ t))) ≡ ((within 1 12 m and within 1 (days_in_month y m) d) and is_read (read_time f t))
date_time_rule f y m d t h k l = rw (moment_parts y m d t f, month_rule f y m d h k l)
