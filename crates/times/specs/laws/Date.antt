-- Laws of what specs/Date.antt defines.
--     date_read_back, date_accepted, date_visible, date_no_comma; date_exact    a date has one spelling in each
use Rattle.std.specs.Prelude.{◌≡◌, true, false, List, ℕ, length, Some}
use Rattle.std.proofs.Common.{eqb-true}
use Rattle.octets.specs.Pick.{◌and◌}
use Rattle.octets.specs.laws.Pick.{and_both}
use Rattle.octets.specs.Scan.{all_of}
use Rattle.octets.specs.Class.{is_visible}
use Rattle.octets.specs.Words.{holds}
use Rattle.calendar.specs.Calendar.{Format, ical, xcal}
use Rattle.times.specs.Spelling.{without_marks, fits}
use Rattle.times.specs.laws.Spelling.{Chars, chars_digits, chars_visible, chars_no_comma, keep_yes, keep_is, keep_accepted, marked_read_back, marked_accepted, marked_exact}
use Rattle.times.specs.Date.{is_date, date_marks, read_date, write_date}

pub date_length : (v : List ℕ) → is_date v ≡ true → length v ≡ 8
unfolding is_date
date_length v h = eqb-true _ _ (and_both _ _ h).0

pub date_chars : Chars is_date
unfolding is_date
date_chars v h = chars_digits v (and_both _ _ (and_both _ _ h).1).0

pub date_read_back : (f : Format) (v : List ℕ) → is_date v ≡ true → read_date f (write_date f v) ≡ Some v
unfolding read_date write_date fits ◌and◌
date_read_back ical v h = keep_yes is_date v h
date_read_back xcal v h = marked_read_back is_date date_marks v h (rw (date_length v h))

pub date_accepted : (f : Format) (s v : List ℕ) → read_date f s ≡ Some v → is_date v ≡ true
unfolding read_date
date_accepted ical s v h = keep_accepted is_date s v h
date_accepted xcal s v h = marked_accepted is_date (without_marks date_marks s) v h

pub date_exact : (f : Format) (s v : List ℕ) → read_date f s ≡ Some v → s ≡ write_date f v
unfolding read_date write_date
date_exact ical s v h = keep_is is_date s v h
date_exact xcal s v h = marked_exact is_date date_marks s v h

pub date_visible : (v : List ℕ) → is_date v ≡ true → all_of is_visible (write_date ical v) ≡ true
unfolding write_date
date_visible v h = chars_visible v (date_chars v h)

pub date_no_comma : (v : List ℕ) → is_date v ≡ true → holds 44 (write_date ical v) ≡ false
unfolding write_date
date_no_comma v h = chars_no_comma v (date_chars v h)
