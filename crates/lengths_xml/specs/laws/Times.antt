-- Dates and times: XML has no more bytes than the text that they were read from, and four marks at most.
--     date_length, time_length, date_time_length, duration_length, offset_length
--     date_some, time_some, date_time_some, duration_some, offset_some    how short such a text can be
--     duration_kept    what is kept of a duration, in text or in XML
use Rattle.std.specs.Prelude.{◌≡◌, Bool, true, false, List, [], ◌∷◌, ℕ, ◌+◌, ◌≤◌, eqb, length, drop, Some}
use Rattle.std.proofs.Common.{sym, ap, arith, length-drop}
use Rattle.std.proofs.lemmas.Bool.{false≢true}
use Rattle.octets.specs.Pick.{pick, ◌or◌}
use Rattle.octets.specs.Class.{upper}
use Rattle.octets.specs.laws.Letters.{upper-length}
use Rattle.calendar.specs.Calendar.{ical, xcal}
use Rattle.times.specs.Spelling.{keep, begins, with_marks}
use Rattle.times.specs.laws.Spelling.{keep_is, keep_accepted, marks_length}
use Rattle.times.specs.Date.{is_date, date_marks, read_date, write_date}
use Rattle.times.specs.laws.Date.{date_accepted, date_length as date_digits}
use Rattle.times.specs.Time.{is_time, time_marks, read_time, write_time}
use Rattle.times.specs.laws.Time.{time_length as time_least}
use Rattle.times.specs.DateTime.{is_date_time, date_time_marks, read_date_time, write_date_time}
use Rattle.times.specs.laws.DateTime.{date_time_accepted, date_time_length as date_time_least}
use Rattle.times.specs.Duration.{unsigned_duration, is_duration, duration_of, read_duration, write_duration}
use Rattle.times.specs.laws.Duration.{duration_accepted}
use Rattle.times.specs.UtcOffset.{is_utc_offset, minute_marks, second_marks, read_utc_offset, write_utc_offset}
use Rattle.times.specs.laws.UtcOffset.{utc_offset_length}

-- what is kept is as long as what was read
pub date_kept : (s v : List ℕ) → read_date ical s ≡ Some v → length v ≡ length s
unfolding read_date
date_kept s v h = ap length (sym (keep_is is_date s v h))

upper_kept : (s v : List ℕ) → upper s ≡ v → length v ≡ length s
upper_kept s v h = rw (← h) (upper-length s)

pub date_time_kept : (s v : List ℕ) → read_date_time ical s ≡ Some v → length v ≡ length s
unfolding read_date_time
date_time_kept s v h = upper_kept s v (keep_is is_date_time (upper s) v h)

-- such a text has so many bytes at least
pub date_some : (s v : List ℕ) → read_date ical s ≡ Some v → 8 ≤ length s
date_some s v h = omega (arith, date_kept s v h, date_digits v (date_accepted ical s v h))

pub date_time_some : (s v : List ℕ) → read_date_time ical s ≡ Some v → 15 ≤ length s
date_time_some s v h = omega (arith, date_time_kept s v h, date_time_least v (date_time_accepted ical s v h))

pub date_written : (v : List ℕ) → length (write_date xcal v) ≤ length v + 4
unfolding write_date
date_written v = omega (arith, marks_length date_marks v)

pub date_time_written : (v : List ℕ) → length (write_date_time xcal v) ≤ length v + 4
unfolding write_date_time
date_time_written v = omega (arith, marks_length date_time_marks v)

pub date_length : (s v : List ℕ) → read_date ical s ≡ Some v → length (write_date xcal v) ≤ length s + 4
date_length s v h = omega (arith, date_written v, date_kept s v h)

pub date_time_length : (s v : List ℕ) → read_date_time ical s ≡ Some v → length (write_date_time xcal v) ≤ length s + 4
date_time_length s v h = omega (arith, date_time_written v, date_time_kept s v h)

pub time_length : (s v : List ℕ) → read_time ical s ≡ Some v → length (write_time xcal v) ≤ length s + 4
unfolding read_time write_time
time_length s v h = omega (arith, marks_length time_marks v, upper_kept s v (keep_is is_time (upper s) v h))

pub time_some : (s v : List ℕ) → read_time ical s ≡ Some v → 6 ≤ length s
unfolding read_time
time_some s v h = omega (arith, upper_kept s v (keep_is is_time (upper s) v h), time_least v (keep_accepted is_time (upper s) v h))

pub duration_kept : (s v : List ℕ) → duration_of s ≡ Some v → length v ≤ length s
unfolding duration_of pick
duration_kept s v h = go (begins 43 unsigned_duration s) h
  where
    go : (t : Bool) → pick t (Some (drop 1 s)) (keep is_duration s) ≡ Some v → length v ≤ length s
    go true k = let q : drop 1 s ≡ v = cc in rw (← q) (omega (arith, length-drop 1 s))
    go false k = omega (arith, ap length (keep_is is_duration s v k))

pub duration_length : (s v : List ℕ) → read_duration ical s ≡ Some v → length (write_duration xcal v) ≤ length s
unfolding read_duration write_duration
duration_length s v h = omega (arith, duration_kept (upper s) v h, upper-length s)

duration_least : (v : List ℕ) → is_duration v ≡ true → 1 ≤ length v
unfolding is_duration unsigned_duration begins ◌or◌
duration_least [] h = absurd (false≢true h)
duration_least (b ∷ v) h = omega arith

pub duration_some : (s v : List ℕ) → read_duration ical s ≡ Some v → 1 ≤ length s
unfolding write_duration
duration_some s v h = omega (arith, duration_length s v h, duration_least v (duration_accepted ical s v h))

marks_few : (b : Bool) (v : List ℕ) → length (with_marks (pick b minute_marks second_marks) v) ≤ length v + 4
unfolding pick
marks_few true v = omega (arith, marks_length minute_marks v)
marks_few false v = omega (arith, marks_length second_marks v)

pub offset_length : (s v : List ℕ) → read_utc_offset ical s ≡ Some v → length (write_utc_offset xcal v) ≤ length s + 4
unfolding read_utc_offset write_utc_offset
offset_length s v h = omega (arith, marks_few (eqb (length v) 5) v, ap length (keep_is is_utc_offset s v h))

pub offset_some : (s v : List ℕ) → read_utc_offset ical s ≡ Some v → 5 ≤ length s
unfolding read_utc_offset
offset_some s v h =
    let kept : length s ≡ length v = ap length (keep_is is_utc_offset s v h) in
    utc_offset_length v (keep_accepted is_utc_offset s v h) (λ e. omega arith) (λ e. omega arith)
