-- Laws of what specs/Duration.antt defines.
--     duration_read_back, duration_accepted, duration_visible, duration_no_comma, duration_no_slash
use Rattle.std.specs.Prelude.{◌≡◌, refl, Bool, true, false, List, [], ◌∷◌, ℕ, eqb, drop, Some}
use Rattle.std.proofs.Common.{eqb-true}
use Rattle.octets.specs.Pick.{pick, ◌and◌, ◌or◌}
use Rattle.octets.specs.laws.Pick.{or_left, and_both, or_cases}
use Rattle.octets.specs.Scan.{all_of, span_len}
use Rattle.octets.specs.laws.Scan.{all_parts}
use Rattle.octets.specs.Class.{is_digit, is_visible, upper}
use Rattle.octets.specs.Words.{holds, is_empty}
use Rattle.octets.specs.Runs.{run_of}
use Rattle.octets.specs.laws.Runs.{run_passes}
use Rattle.calendar.specs.Calendar.{Format, ical, xcal}
use Rattle.times.specs.Spelling.{is_time_char, keep, begins}
use Rattle.times.specs.laws.Spelling.{Chars, chars_empty, chars_digits, chars_begins, chars_or, chars_visible, chars_upper, chars_no_comma, chars_no_slash, keep_yes, keep_accepted}
use Rattle.times.specs.Duration.{counted, optional, dur_second, dur_minute, dur_hour, dur_time, dur_date, dur_week, unsigned_duration, is_duration, duration_of, read_duration, write_duration}

after_digits : (s : List ℕ) → all_of is_time_char (drop (span_len is_digit s) s) ≡ true → all_of is_time_char s ≡ true
unfolding run_of
after_digits s h = all_parts is_time_char (span_len is_digit s) s (chars_digits (run_of is_digit s) (run_passes is_digit s)) h

chars_counted : (c : ℕ) (rest : List ℕ → Bool) → is_time_char c ≡ true → Chars rest → Chars (counted c rest)
unfolding counted
chars_counted c rest e r s h = after_digits s (chars_begins c rest e r (drop (span_len is_digit s) s) (and_both _ _ h).1)

chars_optional : (rule : List ℕ → Bool) → Chars rule → Chars (optional rule)
unfolding optional
chars_optional rule r s h = or_cases _ _ h (λ e. chars_empty s e) (λ e. r s e)

second_chars : Chars dur_second
unfolding dur_second is_time_char ◌or◌ ◌and◌
second_chars s h = chars_counted 83 is_empty refl chars_empty s h

minute_chars : Chars dur_minute
unfolding dur_minute is_time_char ◌or◌ ◌and◌
minute_chars s h = chars_counted 77 (optional dur_second) refl (chars_optional dur_second second_chars) s h

hour_chars : Chars dur_hour
unfolding dur_hour is_time_char ◌or◌ ◌and◌
hour_chars s h = chars_counted 72 (optional dur_minute) refl (chars_optional dur_minute minute_chars) s h

time_chars : Chars dur_time
unfolding dur_time is_time_char ◌or◌ ◌and◌
time_chars s h = chars_begins 84 _ refl (chars_or dur_hour (λ r. dur_minute r or dur_second r) hour_chars (chars_or dur_minute dur_second minute_chars second_chars)) s h

date_chars : Chars dur_date
unfolding dur_date is_time_char ◌or◌ ◌and◌
date_chars s h = chars_counted 68 (optional dur_time) refl (chars_optional dur_time time_chars) s h

week_chars : Chars dur_week
unfolding dur_week is_time_char ◌or◌ ◌and◌
week_chars s h = chars_counted 87 is_empty refl chars_empty s h

unsigned_chars : Chars unsigned_duration
unfolding unsigned_duration is_time_char ◌or◌ ◌and◌
unsigned_chars s h = chars_begins 80 _ refl (chars_or dur_date (λ r. dur_time r or dur_week r) date_chars (chars_or dur_time dur_week time_chars week_chars)) s h

pub duration_chars : Chars is_duration
unfolding is_duration is_time_char ◌or◌ ◌and◌
duration_chars s h = chars_or unsigned_duration (begins 45 unsigned_duration) unsigned_chars (chars_begins 45 unsigned_duration refl unsigned_chars) s h

-- a kept duration begins with P or a hyphen
no_plus : (v : List ℕ) → is_duration v ≡ true → begins 43 unsigned_duration v ≡ false
unfolding is_duration unsigned_duration begins ◌and◌
no_plus [] h = refl
no_plus (b ∷ s) h = or_cases _ _ h (λ e. rw (eqb-true b 80 (and_both _ _ e).0)) (λ e. rw (eqb-true b 45 (and_both _ _ e).0))

kept_is_read : (v : List ℕ) → is_duration v ≡ true → duration_of v ≡ Some v
unfolding duration_of pick
kept_is_read v h = rw (no_plus v h) (keep_yes is_duration v h)

read_is_kept : (s v : List ℕ) → duration_of s ≡ Some v → is_duration v ≡ true
unfolding duration_of pick is_duration begins
read_is_kept [] v h = keep_accepted is_duration [] v h
read_is_kept (b ∷ s) v h = go (eqb b 43 and unsigned_duration s) refl h
  where
    go : (t : Bool) → (eqb b 43 and unsigned_duration s) ≡ t → pick t (Some s) (keep is_duration (b ∷ s)) ≡ Some v → is_duration v ≡ true
    go true e k = let q : s ≡ v = cc in rw (← q) (or_left _ _ (and_both _ _ e).1)
    go false e k = keep_accepted is_duration (b ∷ s) v k

pub duration_read_back : (f : Format) (v : List ℕ) → is_duration v ≡ true → read_duration f (write_duration f v) ≡ Some v
unfolding read_duration write_duration
duration_read_back ical v h = rw (chars_upper v (duration_chars v h)) (kept_is_read v h)
duration_read_back xcal v h = kept_is_read v h

pub duration_accepted : (f : Format) (s v : List ℕ) → read_duration f s ≡ Some v → is_duration v ≡ true
unfolding read_duration
duration_accepted ical s v h = read_is_kept (upper s) v h
duration_accepted xcal s v h = read_is_kept s v h

pub duration_visible : (v : List ℕ) → is_duration v ≡ true → all_of is_visible (write_duration ical v) ≡ true
unfolding write_duration
duration_visible v h = chars_visible v (duration_chars v h)

pub duration_no_comma : (v : List ℕ) → is_duration v ≡ true → holds 44 (write_duration ical v) ≡ false
unfolding write_duration
duration_no_comma v h = chars_no_comma v (duration_chars v h)

pub duration_no_slash : (v : List ℕ) → is_duration v ≡ true → holds 47 (write_duration ical v) ≡ false
unfolding write_duration
duration_no_slash v h = chars_no_slash v (duration_chars v h)
