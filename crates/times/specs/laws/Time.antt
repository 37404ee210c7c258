-- Laws of what specs/Time.antt defines.
--     time_read_back, time_accepted, time_visible; time_exact    XML has one spelling of a time
use Rattle.std.specs.Prelude.{◌≡◌, refl, true, List, ℕ, ◌≤◌, length, take, drop, Some}
use Rattle.std.proofs.Common.{leb-true}
use Rattle.octets.specs.Ascii.{ascii}
use Rattle.octets.specs.Pick.{pick, ◌and◌, ◌or◌}
use Rattle.octets.specs.laws.Pick.{and_both, or_cases}
use Rattle.octets.specs.Scan.{all_of}
use Rattle.octets.specs.laws.Scan.{all_parts}
use Rattle.octets.specs.Class.{is_visible, upper}
use Rattle.octets.specs.Words.{same, is_empty}
use Rattle.octets.specs.laws.Words.{same_true}
use Rattle.calendar.specs.Calendar.{Format, ical, xcal}
use Rattle.times.specs.Spelling.{without_marks, fits}
use Rattle.times.specs.Spelling.{is_time_char}
use Rattle.times.specs.laws.Spelling.{Chars, chars_digits, chars_empty, chars_visible, chars_upper, keep_yes, keep_accepted, marked_read_back, marked_accepted, marked_exact, fits_longer}
use Rattle.times.specs.Time.{is_clock, is_time, time_marks, read_time, write_time}

pub time_length : (v : List ℕ) → is_time v ≡ true → 6 ≤ length v
unfolding is_time
time_length v h = leb-true _ _ (and_both _ _ h).0

pub clock_chars : Chars is_clock
unfolding is_clock
clock_chars v h = chars_digits v (and_both _ _ h).0

z_chars : all_of is_time_char (ascii "Z") ≡ true
unfolding is_time_char all_of pick ◌or◌ ◌and◌
z_chars = refl

pub time_chars : Chars is_time
unfolding is_time
time_chars v h =
    all_parts is_time_char 6 v (clock_chars (take 6 v) (and_both _ _ (and_both _ _ h).1).0)
    (or_cases (is_empty (drop 6 v)) (same (drop 6 v) (ascii "Z")) (and_both _ _ (and_both _ _ h).1).1 (λ e. chars_empty (drop 6 v) e)
    (λ e. rw (same_true (drop 6 v) (ascii "Z") e) z_chars))

time_marks_fit : (v : List ℕ) → is_time v ≡ true → fits time_marks (length v) ≡ true
unfolding fits ◌and◌
time_marks_fit v h = fits_longer time_marks 6 (length v) refl (time_length v h)

pub time_read_back : (f : Format) (v : List ℕ) → is_time v ≡ true → read_time f (write_time f v) ≡ Some v
unfolding read_time write_time
time_read_back ical v h = rw (chars_upper v (time_chars v h)) (keep_yes is_time v h)
time_read_back xcal v h = marked_read_back is_time time_marks v h (time_marks_fit v h)

pub time_accepted : (f : Format) (s v : List ℕ) → read_time f s ≡ Some v → is_time v ≡ true
unfolding read_time
time_accepted ical s v h = keep_accepted is_time (upper s) v h
time_accepted xcal s v h = marked_accepted is_time (without_marks time_marks s) v h

pub time_exact : (s v : List ℕ) → read_time xcal s ≡ Some v → s ≡ write_time xcal v
unfolding read_time write_time
time_exact s v h = marked_exact is_time time_marks s v h

pub time_visible : (v : List ℕ) → is_time v ≡ true → all_of is_visible (write_time ical v) ≡ true
unfolding write_time
time_visible v h = chars_visible v (time_chars v h)
