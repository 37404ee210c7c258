-- Laws of what specs/Written.antt defines.
--     year-written, day_written, time_written, date_time_written    what the writers put is what the definitions write
use Rattle.std.specs.Prelude.{◌≡◌, refl, Bool, true, false, List, [], ◌∷◌, ℕ, Option, None, Some}
use Rattle.octets.specs.Pick.{pick}
use Rattle.octets.specs.Append.{◌⊕◌}
use Rattle.octets.specs.Reading.{or_nothing}
use Rattle.calendar.specs.Calendar.{format_of}
use Rattle.sink.specs.Sink.{Put}
use Rattle.times.specs.Spelling.{with_marks, put_mark}
use Rattle.times.specs.Digits.{two_digits, date_of}
use Rattle.times.specs.Date.{write_date}
use Rattle.times.specs.Time.{write_time}
use Rattle.times.specs.DateAlong.{day_of}
use Rattle.times.specs.TimeAlong.{hms, time_of, clock_of}
use Rattle.times.specs.DateTimeAlong.{moment_of}
use Rattle.times.specs.DateTime.{write_date_time}
use Rattle.times.specs.Written.{marked, year_digits, day_bytes, clock_bytes, moment_bytes}
use Rattle.times.specs.declared.date.Date.{Date}
use Rattle.times.specs.declared.time.Time.{Time}
use Rattle.times.specs.declared.date_time.DateTime.{DateTime}

pub day_written : (to : Bool) (y m d : ℕ) → write_date (format_of to) (date_of y m d) ≡ day_bytes to y m d
unfolding write_date date_of with_marks put_mark two_digits year_digits marked day_bytes pick ◌⊕◌
day_written true y m d = refl
day_written false y m d = refl

pub time_written : (to : Bool) (h m s : ℕ) (z : Bool) → write_time (format_of to) (time_of h m s z) ≡ clock_bytes to h m s z
unfolding write_time time_of hms with_marks put_mark two_digits marked clock_bytes pick ◌⊕◌
time_written true h m s z = refl
time_written false h m s z = refl

pub date_time_written : (to : Bool) (y m d h i s : ℕ) (z : Bool) → write_date_time (format_of to) (date_of y m d ⊕ (84 ∷ time_of h i s z)) ≡ moment_bytes to y m d h i s z
unfolding moment_bytes write_date_time date_of time_of hms with_marks put_mark two_digits year_digits marked day_bytes clock_bytes pick ◌⊕◌
date_time_written true y m d h i s z = refl
date_time_written false y m d h i s z = refl

-- ---- what was read, written

module _ {d e : List ℕ} {o q : ℕ} (to : Bool) {l : Option (List ℕ)} where
  module _ {r : Option Date} (p : l ≡ day_of r) where
    pub put_day_read : {t : Date} → r ≡ Some t → Put d e o q (day_bytes to t.year t.month t.day) → Put d e o q (or_nothing (write_date (format_of to)) l)
    put_day_read {t} h w = rw (p, h, day_written to t.year t.month t.day) w

    pub put_no_day : r ≡ None → Put d e o q [] → Put d e o q (or_nothing (write_date (format_of to)) l)
    put_no_day h w = rw (p, h) w

  module _ {r : Option Time} (p : l ≡ clock_of r) where
    pub put_clock_read : {t : Time} → r ≡ Some t → Put d e o q (clock_bytes to t.hour t.minute t.second t.utc) → Put d e o q (or_nothing (write_time (format_of to)) l)
    put_clock_read {t} g w = rw (p, g, time_written to t.hour t.minute t.second t.utc) w

    pub put_no_clock : r ≡ None → Put d e o q [] → Put d e o q (or_nothing (write_time (format_of to)) l)
    put_no_clock h w = rw (p, h) w

  module _ {r : Option DateTime} (p : l ≡ moment_of r) where
    pub put_moment_read : {t : DateTime} → r ≡ Some t → Put d e o q (moment_bytes to t.date.year t.date.month t.date.day t.time.hour t.time.minute t.time.second t.time.utc) → Put d e o q (or_nothing (write_date_time (format_of to)) l)
    put_moment_read {t} g w = rw (p, g, date_time_written to t.date.year t.date.month t.date.day t.time.hour t.time.minute t.time.second t.time.utc) w

    pub put_no_moment : r ≡ None → Put d e o q [] → Put d e o q (or_nothing (write_date_time (format_of to)) l)
    put_no_moment h w = rw (p, h) w
