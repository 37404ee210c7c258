-- What the month rule speaks of (MonthRule): a date as a text, and where dates stand in a DATE-TIME and in a PERIOD.
--     date_text f y m d           the text of a year, a month and a day in a format: 20240504, 2024-05-04
--     DayOf f s                   s is the text of a day of the calendar
--     date_width, time_behind     a DATE-TIME: how long its date is, and what stands behind the date
--     before_slash, behind_slash  a PERIOD: its start, and its end or duration
use Rattle.std.specs.Prelude.{◌≡◌, Bool, true, false, List, [], ◌∷◌, ℕ, ◌/◌, ◌%◌, ◌<◌, eqb, take, drop}
use Rattle.octets.specs.Pick.{◌and◌, ◌or◌, within}
use Rattle.octets.specs.Append.{◌⊕◌}
use Rattle.octets.specs.Reading.{is_read}
use Rattle.calendar.specs.Calendar.{Format, ical, xcal}
use Rattle.times.specs.Digits.{two_digits, date_of}
use Rattle.gregorian.specs.Month.{days_in_month}
use Rattle.times.specs.Time.{read_time}
use Rattle.times.specs.Period.{slash_at}

-- 45 is -
unfoldable pub date_text : Format → ℕ → ℕ → ℕ → List ℕ
date_text ical y m d = date_of y m d
date_text xcal y m d = (two_digits (y / 100) ⊕ two_digits (y % 100)) ⊕ (45 ∷ two_digits m) ⊕ (45 ∷ two_digits d)

-- a year from 0000 to 9999, one of its twelve months, and a day of that month
pub record DayOf (f : Format) (s : List ℕ) : Type 0 where
  pub year : ℕ
  pub month : ℕ
  pub day : ℕ
  pub in_calendar : year < 10000
  pub in_year : within 1 12 month ≡ true
  pub in_month : within 1 (days_in_month year month) day ≡ true
  pub is : s ≡ date_text f year month day

-- ---- the parts of a DATE-TIME and of a PERIOD

-- how many characters a date has
abbrev pub date_width : Format → ℕ
date_width ical = 8
date_width xcal = 10

-- T, in text also t
abbrev pub is_t : Format → ℕ → Bool
is_t ical b = eqb b 84 or eqb b 116
is_t xcal b = eqb b 84

-- what stands behind the date: T and a time
abbrev pub time_behind : Format → List ℕ → Bool
time_behind f [] = false
time_behind f (b ∷ t) = is_t f b and is_read (read_time f t)

-- what stands before the first slash of a period, and behind it
abbrev pub before_slash : List ℕ → List ℕ
before_slash s = take (slash_at s) s

abbrev pub behind_slash : List ℕ → List ℕ
behind_slash s = drop 1 (drop (slash_at s) s)
