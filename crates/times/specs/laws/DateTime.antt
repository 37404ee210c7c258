-- Laws of what specs/DateTime.antt defines.
--     date_time_read_back, date_time_accepted, date_time_visible, date_time_no_comma, date_time_no_slash; date_time_exact    XML has one spelling of a date-time
--     date_time_no_date, date_no_date_time    in neither format is one read as the other
use Rattle.std.specs.Prelude.{◌≡◌, refl, true, false, List, [], ◌∷◌, ℕ, ◌≤◌, ◌<◌, length, take, drop, Option, None, Some}
use Rattle.std.proofs.Common.{sym, ap, ◌∙◌, arith, length-drop}
use Rattle.std.proofs.lemmas.Bool.{false≢true}
use Rattle.octets.specs.Pick.{◌and◌, ◌or◌}
use Rattle.octets.specs.laws.Pick.{and_both}
use Rattle.octets.specs.Scan.{all_of}
use Rattle.octets.specs.laws.Scan.{all_parts}
use Rattle.octets.specs.Class.{is_visible, upper}
use Rattle.octets.specs.Words.{holds}
use Rattle.calendar.specs.Calendar.{Format, ical, xcal}
use Rattle.times.specs.Spelling.{without_marks, begins, fits}
use Rattle.times.specs.Spelling.{is_time_char}
use Rattle.times.specs.laws.Spelling.{Chars, chars_begins, chars_visible, chars_upper, chars_no_comma, chars_no_slash, keep_yes, keep_is, keep_accepted, marked_read_back, marked_accepted, marked_exact, marks_length, fits_longer}
use Rattle.times.specs.Date.{is_date, read_date, write_date, date_marks}
use Rattle.times.specs.laws.Date.{date_chars, date_length, date_accepted, date_exact}
use Rattle.times.specs.Time.{is_time}
use Rattle.times.specs.laws.Time.{time_chars, time_length}
use Rattle.times.specs.DateTime.{is_date_time, date_time_marks, read_date_time, write_date_time}

tail_length : (s : List ℕ) → begins 84 is_time s ≡ true → 7 ≤ length s
unfolding begins
tail_length [] h = absurd (false≢true h)
tail_length (b ∷ s) h = omega (arith, time_length s (and_both _ _ h).1)

pub date_time_length : (v : List ℕ) → is_date_time v ≡ true → 15 ≤ length v
unfolding is_date_time
date_time_length v h = omega (arith, tail_length (drop 8 v) (and_both _ _ h).1, length-drop 8 v)

t_char : is_time_char 84 ≡ true
unfolding is_time_char ◌or◌ ◌and◌
t_char = refl

pub date_time_chars : Chars is_date_time
unfolding is_date_time
date_time_chars v h =
    all_parts is_time_char 8 v (date_chars (take 8 v) (and_both _ _ h).0) (chars_begins 84 is_time t_char time_chars (drop 8 v) (and_both _ _ h).1)

marks_fit : (v : List ℕ) → is_date_time v ≡ true → fits date_time_marks (length v) ≡ true
unfolding fits ◌and◌
marks_fit v h = fits_longer date_time_marks 15 (length v) refl (date_time_length v h)

pub date_time_read_back : (f : Format) (v : List ℕ) → is_date_time v ≡ true → read_date_time f (write_date_time f v) ≡ Some v
unfolding read_date_time write_date_time
date_time_read_back ical v h = rw (chars_upper v (date_time_chars v h)) (keep_yes is_date_time v h)
date_time_read_back xcal v h = marked_read_back is_date_time date_time_marks v h (marks_fit v h)

pub date_time_accepted : (f : Format) (s v : List ℕ) → read_date_time f s ≡ Some v → is_date_time v ≡ true
unfolding read_date_time
date_time_accepted ical s v h = keep_accepted is_date_time (upper s) v h
date_time_accepted xcal s v h = marked_accepted is_date_time (without_marks date_time_marks s) v h

pub date_time_exact : (s v : List ℕ) → read_date_time xcal s ≡ Some v → s ≡ write_date_time xcal v
unfolding read_date_time write_date_time
date_time_exact s v h = marked_exact is_date_time date_time_marks s v h

pub date_time_visible : (v : List ℕ) → is_date_time v ≡ true → all_of is_visible (write_date_time ical v) ≡ true
unfolding write_date_time
date_time_visible v h = chars_visible v (date_time_chars v h)

pub date_time_no_comma : (v : List ℕ) → is_date_time v ≡ true → holds 44 (write_date_time ical v) ≡ false
unfolding write_date_time
date_time_no_comma v h = chars_no_comma v (date_time_chars v h)

pub date_time_no_slash : (v : List ℕ) → is_date_time v ≡ true → holds 47 (write_date_time ical v) ≡ false
unfolding write_date_time
date_time_no_slash v h = chars_no_slash v (date_time_chars v h)

-- ---- a date-time is never read as a date, nor a date as a date-time: their lengths differ

written_lengths : (f : Format) (d v : List ℕ) → is_date d ≡ true → is_date_time v ≡ true → length (write_date f d) < length (write_date_time f v)
unfolding write_date write_date_time
written_lengths ical d v h k = omega (arith, date_length d h, date_time_length v k)
written_lengths xcal d v h k = omega (arith, date_length d h, date_time_length v k, marks_length date_marks d, marks_length date_time_marks v)

written_otherwise : (f : Format) (d v : List ℕ) → is_date d ≡ true → is_date_time v ≡ true → write_date f d ≡ write_date_time f v → ⊥
written_otherwise f d v h k e = omega (arith, written_lengths f d v h k, ap length e)

pub date_time_no_date : (f : Format) (v : List ℕ) → is_date_time v ≡ true → read_date f (write_date_time f v) ≡ None
date_time_no_date f v h = go (read_date f (write_date_time f v)) refl
  where
    go : (o : Option (List ℕ)) → read_date f (write_date_time f v) ≡ o → o ≡ None
    go None e = refl
    go (Some d) e = absurd (written_otherwise f d v (date_accepted f _ d e) h (sym (date_exact f _ d e)))

read_as_written : (f : Format) (d v : List ℕ) → is_date d ≡ true → read_date_time f (write_date f d) ≡ Some v → write_date f d ≡ write_date_time f v
unfolding read_date_time write_date write_date_time
read_as_written ical d v h k = sym (chars_upper d (date_chars d h)) ∙ keep_is is_date_time (upper d) v k
read_as_written xcal d v h k = date_time_exact _ v k

pub date_no_date_time : (f : Format) (v : List ℕ) → is_date v ≡ true → read_date_time f (write_date f v) ≡ None
date_no_date_time f v h = go (read_date_time f (write_date f v)) refl
  where
    go : (o : Option (List ℕ)) → read_date_time f (write_date f v) ≡ o → o ≡ None
    go None e = refl
    go (Some d) e = absurd (written_otherwise f v d h (date_time_accepted f _ d e) (read_as_written f v d h e))
