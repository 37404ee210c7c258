-- UNTIL's date or date-time is read back, and what is read is one.
--     enddate_read_back, enddate_accepted    in both formats
--     enddate_characters                     in text it has digits, capitals and signs
--     until_parts                            it is read exactly where it is read as a DATE or as a DATE-TIME (the month rule: times/specs/MonthRule)
use Rattle.std.specs.Prelude.{◌≡◌, refl, Bool, true, false, List, ℕ, Option, None, Some}
use Rattle.std.proofs.Common.{◌∙◌}
use Rattle.octets.specs.Ascii.{ascii}
use Rattle.octets.specs.Pick.{pick, ◌and◌, ◌or◌}
use Rattle.octets.specs.laws.Pick.{or_left, or_right}
use Rattle.octets.specs.Scan.{all_of}
use Rattle.octets.specs.Words.{same, row_of}
use Rattle.octets.specs.Reading.{is_read, and_then}
use Rattle.calendar.specs.Calendar.{Format, ical, moment}
use Rattle.times.specs.Spelling.{is_time_char}
use Rattle.times.specs.Date.{is_date, read_date, write_date}
use Rattle.times.specs.laws.Date.{date_read_back, date_accepted, date_chars}
use Rattle.times.specs.DateTime.{is_date_time, read_date_time, write_date_time}
use Rattle.times.specs.laws.DateTime.{date_time_no_date, date_time_read_back, date_time_accepted, date_time_chars}
use Rattle.recur.specs.Item.{or_other, read_enddate, write_enddate, read_item}

-- ---- read back, accepted

pub enddate_read_back : (f : Format) (v : List ℕ) → (is_date v or is_date_time v) ≡ true → read_enddate f (write_enddate f v) ≡ Some v
unfolding ◌or◌ pick
enddate_read_back f v h = go (is_date v) refl h
  where
    go : (t : Bool) → is_date v ≡ t → (t or is_date_time v) ≡ true → read_enddate f (pick t (write_date f v) (write_date_time f v)) ≡ Some v
    go true e k = rw (date_read_back f v e)
    go false e k = rw (date_time_no_date f v k) (date_time_read_back f v k)

pub enddate_accepted : (f : Format) (s v : List ℕ) → read_enddate f s ≡ Some v → (is_date v or is_date_time v) ≡ true
enddate_accepted f s v h = go (read_date f s) refl h
  where
    go : (o : Option (List ℕ)) → read_date f s ≡ o → or_other o (read_date_time f s) ≡ Some v → (is_date v or is_date_time v) ≡ true
    go None e k = or_right (is_date v) (is_date_time v) (date_time_accepted f s v k)
    go (Some u) e k = or_left (is_date v) (is_date_time v) (date_accepted f s v (e ∙ k))

pub enddate_characters : (v : List ℕ) → (is_date v or is_date_time v) ≡ true → all_of is_time_char (write_enddate ical v) ≡ true
unfolding ◌or◌ pick write_date write_date_time
enddate_characters v h = go (is_date v) refl h
  where
    go : (t : Bool) → is_date v ≡ t → (t or is_date_time v) ≡ true → all_of is_time_char (pick t (write_date ical v) (write_date_time ical v)) ≡ true
    go true e k = date_chars v e
    go false e k = date_time_chars v k

-- ---- UNTIL reads its date by `read_date`, and its date-time by `read_date_time`
pub until_parts : (f : Format) (s : List ℕ) → is_read (read_item f (ascii "UNTIL") s) ≡ (is_read (read_date f s) or is_read (read_date_time f s))
unfolding and_then is_read ◌or◌ ◌and◌ pick same row_of
until_parts f s = go (read_date f s) (read_date_time f s)
  where
    go : (o p : Option (List ℕ)) → is_read (and_then (or_other o p) (λ m. Some (moment m))) ≡ (is_read o or is_read p)
    go None None = refl
    go None (Some v) = refl
    go (Some v) p = refl
