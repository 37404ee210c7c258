-- Laws of what specs/UtcOffset.antt defines.
--     utc_offset_read_back, utc_offset_accepted, utc_offset_visible, utc_offset_no_comma; utc_offset_exact    an offset has one spelling in each
use Rattle.std.specs.Prelude.{◌≡◌, refl, Bool, true, false, List, [], ◌∷◌, ℕ, suc, ◌+◌, eqb, length, None, Some}
use Rattle.std.proofs.Common.{ap, arith, eqb-true}
use Rattle.std.proofs.lemmas.Bool.{false≢true}
use Rattle.octets.specs.Pick.{pick, ◌and◌, ◌or◌}
use Rattle.octets.specs.laws.Pick.{and_both, or_cases}
use Rattle.octets.specs.Scan.{all_of}
use Rattle.octets.specs.Class.{is_visible}
use Rattle.octets.specs.Words.{holds}
use Rattle.octets.specs.Reading.{and_then}
use Rattle.octets.specs.laws.Reading.{none-some}
use Rattle.calendar.specs.Calendar.{Format, ical, xcal}
use Rattle.times.specs.Spelling.{Mark, with_marks, without_marks, keep, begins, fits}
use Rattle.times.specs.Spelling.{is_time_char}
use Rattle.times.specs.laws.Spelling.{Chars, chars_begins, chars_or, chars_visible, chars_no_comma, keep_yes, keep_is, keep_accepted, marked_read_back, marked_accepted, marked_exact, marks_length}
use Rattle.times.specs.laws.Time.{clock_chars}
use Rattle.times.specs.UtcOffset.{is_shift, is_some_shift, is_utc_offset, minute_marks, second_marks, read_utc_offset, write_utc_offset}

shift_chars : Chars is_shift
unfolding is_shift
shift_chars s h = clock_chars s (and_both _ _ h).1

some_shift_chars : Chars is_some_shift
unfolding is_some_shift
some_shift_chars s h = shift_chars s (and_both _ _ h).0

pub utc_offset_chars : Chars is_utc_offset
unfolding is_utc_offset is_time_char ◌or◌ ◌and◌
utc_offset_chars s h =
    chars_or (begins 43 is_shift) (begins 45 is_some_shift) (chars_begins 43 is_shift refl shift_chars) (chars_begins 45 is_some_shift refl some_shift_chars) s h

-- five characters or seven
shift_length : {P : Type 0} (s : List ℕ) → is_shift s ≡ true → (length s ≡ 4 → P) → (length s ≡ 6 → P) → P
unfolding is_shift
shift_length s h p q = or_cases _ _ (and_both _ _ h).0 (λ e. p (eqb-true _ _ e)) (λ e. q (eqb-true _ _ e))

pub utc_offset_length : {P : Type 0} (v : List ℕ) → is_utc_offset v ≡ true → (length v ≡ 5 → P) → (length v ≡ 7 → P) → P
unfolding is_utc_offset begins is_some_shift
utc_offset_length [] h p q = or_cases false false h (λ e. absurd (false≢true e)) (λ e. absurd (false≢true e))
utc_offset_length (b ∷ s) h p q =
    or_cases _ _ h (λ e. shift_length s (and_both _ _ e).1 (λ l. p (ap suc l)) (λ l. q (ap suc l)))
    (λ e. shift_length s (and_both _ _ (and_both _ _ e).1).0 (λ l. p (ap suc l)) (λ l. q (ap suc l)))

pub utc_offset_read_back : (f : Format) (v : List ℕ) → is_utc_offset v ≡ true → read_utc_offset f (write_utc_offset f v) ≡ Some v
unfolding read_utc_offset write_utc_offset pick fits ◌and◌
utc_offset_read_back ical v h = keep_yes is_utc_offset v h
utc_offset_read_back xcal v h =
    utc_offset_length v h
    (λ l. rw (l, marks_length minute_marks v, l) (marked_read_back is_utc_offset minute_marks v h (rw l)))
    (λ l. rw (l, marks_length second_marks v, l) (marked_read_back is_utc_offset second_marks v h (rw l)))

-- what was read from XML has six characters or nine
two_lengths : {P : Type 0} (s v : List ℕ) → read_utc_offset xcal s ≡ Some v →
    (length s ≡ 6 → and_then (without_marks minute_marks s) (keep is_utc_offset) ≡ Some v → P) →
    (length s ≡ 9 → and_then (without_marks second_marks s) (keep is_utc_offset) ≡ Some v → P) → P
unfolding read_utc_offset pick
two_lengths {P} s v h p q = go (eqb (length s) 6) (eqb (length s) 9) refl refl h
  where
    go : (t u : Bool) → eqb (length s) 6 ≡ t → eqb (length s) 9 ≡ u →
        pick t (and_then (without_marks minute_marks s) (keep is_utc_offset)) (pick u (and_then (without_marks second_marks s) (keep is_utc_offset)) None) ≡ Some v → P
    go true u e d k = p (eqb-true _ _ e) k
    go false true e d k = q (eqb-true _ _ d) k
    go false false e d k = none-some k

pub utc_offset_accepted : (f : Format) (s v : List ℕ) → read_utc_offset f s ≡ Some v → is_utc_offset v ≡ true
unfolding read_utc_offset
utc_offset_accepted ical s v h = keep_accepted is_utc_offset s v h
utc_offset_accepted xcal s v h =
    two_lengths s v h (λ l k. marked_accepted is_utc_offset (without_marks minute_marks s) v k) (λ l k. marked_accepted is_utc_offset (without_marks second_marks s) v k)

pub utc_offset_exact : (f : Format) (s v : List ℕ) → read_utc_offset f s ≡ Some v → s ≡ write_utc_offset f v
unfolding read_utc_offset write_utc_offset pick
utc_offset_exact ical s v h = keep_is is_utc_offset s v h
utc_offset_exact xcal s v h =
    two_lengths s v h (λ l k. spelt 5 minute_marks l (marked_exact is_utc_offset minute_marks s v k) refl) (λ l k. spelt 7 second_marks l (marked_exact is_utc_offset second_marks s v k) refl)
  where
    spelt : (n : ℕ) (ms : List Mark) → length s ≡ length ms + n → s ≡ with_marks ms v → pick (eqb n 5) minute_marks second_marks ≡ ms →
        s ≡ with_marks (pick (eqb (length v) 5) minute_marks second_marks) v
    spelt n ms l e d =
        let k : length v ≡ n = omega (arith, ap length e, marks_length ms v) in
        rw (k, d) e

pub utc_offset_visible : (v : List ℕ) → is_utc_offset v ≡ true → all_of is_visible (write_utc_offset ical v) ≡ true
unfolding write_utc_offset
utc_offset_visible v h = chars_visible v (utc_offset_chars v h)

pub utc_offset_no_comma : (v : List ℕ) → is_utc_offset v ≡ true → holds 44 (write_utc_offset ical v) ≡ false
unfolding write_utc_offset
utc_offset_no_comma v h = chars_no_comma v (utc_offset_chars v h)
