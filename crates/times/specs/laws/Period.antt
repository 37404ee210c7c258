-- Laws of what specs/Period.antt defines.
--     period_explicit_read_back, period_start_read_back, period_accepted
--     period_explicit_visible, period_start_visible, period_explicit_no_comma, period_start_no_comma
use Rattle.std.specs.Prelude.{◌≡◌, refl, Bool, true, false, List, [], ◌∷◌, ◌++◌, ℕ, eqb, length, take, drop, Some}
use Rattle.std.proofs.Common.{sym, ap, ◌∙◌, eqb-true, ne_eqb}
use Rattle.std.proofs.lemmas.Bool.{false≢true}
use Rattle.std.proofs.Math.Seq.{take-append_seam, drop-append_seam}
use Rattle.octets.specs.Pick.{pick, ◌and◌, ◌or◌}
use Rattle.octets.specs.laws.Pick.{or_left, and_both, or_cases}
use Rattle.octets.specs.Scan.{all_of}
use Rattle.octets.specs.laws.Scan.{all_append, all_cons, all_split, all_weaker}
use Rattle.octets.specs.Append.{◌⊕◌}
use Rattle.octets.specs.Class.{is_digit, is_visible, upper}
use Rattle.octets.specs.Words.{holds}
use Rattle.octets.specs.laws.Words.{all_without}
use Rattle.octets.specs.laws.Runs.{span_front, stops_at}
use Rattle.octets.specs.Reading.{and_then}
use Rattle.octets.specs.laws.Reading.{and_then-some}
use Rattle.calendar.specs.Calendar.{ical, Value, period_explicit, period_start}
use Rattle.times.specs.Spelling.{is_time_char, begins}
use Rattle.times.specs.laws.Spelling.{chars_upper, char_visible}
use Rattle.times.specs.Date.{is_date}
use Rattle.times.specs.DateTime.{is_date_time, read_date_time, write_date_time}
use Rattle.times.specs.laws.DateTime.{date_time_chars, date_time_read_back, date_time_accepted}
use Rattle.times.specs.Duration.{unsigned_duration, is_duration, read_duration, write_duration}
use Rattle.times.specs.laws.Duration.{duration_chars, duration_read_back, duration_accepted}
use Rattle.times.specs.Period.{is_no_slash, slash_at, period_from, read_period, write_period, is_period_char}

-- ---- what is written is read back

char_no_slash : (b : ℕ) → is_time_char b ≡ true → is_no_slash b ≡ true
unfolding is_no_slash is_time_char pick ◌or◌ ◌and◌
char_no_slash b h = rw (ne_eqb b 47 (λ e. false≢true (ap is_time_char (sym e) ∙ h)))

slash_found : (a b : List ℕ) → all_of is_time_char a ≡ true → slash_at (a ++ (47 ∷ b)) ≡ length a
unfolding is_no_slash pick
slash_found a b h = span_front is_no_slash a (47 ∷ b) (all_weaker is_time_char is_no_slash char_no_slash a h) (stops_at is_no_slash 47 b refl)

date_time_read : (v : List ℕ) → is_date_time v ≡ true → read_date_time ical v ≡ Some v
unfolding write_date_time
date_time_read v h = date_time_read_back ical v h

duration_read : (v : List ℕ) → is_duration v ≡ true → read_duration ical v ≡ Some v
unfolding write_duration
duration_read v h = duration_read_back ical v h

-- of a period that is written, what follows the slash is read
cut_at_slash : (start end : List ℕ) → is_date_time start ≡ true → read_period (write_period start end) ≡ period_from start end
unfolding read_period write_period ◌⊕◌ and_then
cut_at_slash start end h =
    rw (slash_found start end (date_time_chars start h), take-append_seam start (47 ∷ end), drop-append_seam start (47 ∷ end), date_time_read start h)

-- a date-time begins with a digit, a duration does not
date_time_first : (b : ℕ) (s : List ℕ) → is_date_time (b ∷ s) ≡ true → is_digit b ≡ true
unfolding is_date_time is_date
date_time_first b s h = (all_split is_digit b (take 7 s) (and_both _ _ (and_both _ _ (and_both _ _ h).0).1).0).0

duration_first : (b : ℕ) (s : List ℕ) → is_duration (b ∷ s) ≡ true → is_digit b ≡ false
unfolding is_duration unsigned_duration begins ◌and◌
duration_first b s h = or_cases _ _ h (λ e. rw (eqb-true b 80 (and_both _ _ e).0)) (λ e. rw (eqb-true b 45 (and_both _ _ e).0))

not_both : (v : List ℕ) → is_duration v ≡ true → is_date_time v ≡ false
unfolding is_duration unsigned_duration begins ◌or◌
not_both v h = go v (is_date_time v) refl h
  where
    go : (v : List ℕ) (t : Bool) → is_date_time v ≡ t → is_duration v ≡ true → t ≡ false
    go v false e k = refl
    go [] true e k = sym k
    go (b ∷ s) true e k = absurd (false≢true (sym (duration_first b s k) ∙ date_time_first b s e))

pub period_explicit_read_back : (start end : List ℕ) → is_date_time start ≡ true → is_date_time end ≡ true → read_period (write_period start end) ≡ Some (period_explicit start end)
unfolding period_from pick
period_explicit_read_back start end h k = cut_at_slash start end h ∙ rw (chars_upper end (date_time_chars end k), k)

pub period_start_read_back : (start d : List ℕ) → is_date_time start ≡ true → is_duration d ≡ true → read_period (write_period start d) ≡ Some (period_start start d)
unfolding period_from pick and_then
period_start_read_back start d h k = cut_at_slash start d h ∙ rw (chars_upper d (duration_chars d k), not_both d k, duration_read d k)

-- ---- what is read is a date-time and a date-time, or a date-time and a duration: what holds of those holds of it
pub period_accepted : (P : Value → Type 0) → ((start end : List ℕ) → is_date_time start ≡ true → is_date_time end ≡ true → P (period_explicit start end)) →
    ((start d : List ℕ) → is_date_time start ≡ true → is_duration d ≡ true → P (period_start start d)) →
    (s : List ℕ) (v : Value) → read_period s ≡ Some v → P v
unfolding read_period period_from pick
period_accepted P explicit started s v h =
    let q = and_then-some (read_date_time ical (take (slash_at s) s)) (λ start. period_from start (drop 1 (drop (slash_at s) s))) v h in
    go q.0 (drop 1 (drop (slash_at s) s)) (date_time_accepted ical _ q.0 q.1) q.2
  where
    both : (start r : List ℕ) (t : Bool) → is_date_time (upper r) ≡ t → is_date_time start ≡ true →
        pick t (Some (period_explicit start (upper r))) (and_then (read_duration ical r) (λ d. Some (period_start start d))) ≡ Some v → P v
    both start r true e h k = let q : period_explicit start (upper r) ≡ v = cc in rw (← q) (explicit start (upper r) h e)
    both start r false e h k =
        let p = and_then-some (read_duration ical r) (λ d. Some (period_start start d)) v k in
        let q : period_start start p.0 ≡ v = cc p.2 in
        rw (← q) (started start p.0 h (duration_accepted ical r p.0 p.1))

    go : (start r : List ℕ) → is_date_time start ≡ true → period_from start r ≡ Some v → P v
    go start r h k = both start r (is_date_time (upper r)) refl h k

-- ---- its characters

period_chars : (start end : List ℕ) → all_of is_time_char start ≡ true → all_of is_time_char end ≡ true → all_of is_period_char (write_period start end) ≡ true
unfolding write_period is_period_char is_time_char ◌or◌ ◌and◌
period_chars start end h k =
    all_append is_period_char start (47 ∷ end) (all_weaker is_time_char is_period_char (λ b e. or_left _ _ e) start h)
    (all_cons is_period_char 47 end refl (all_weaker is_time_char is_period_char (λ b e. or_left _ _ e) end k))

period_visible : (s : List ℕ) → all_of is_period_char s ≡ true → all_of is_visible s ≡ true
unfolding is_period_char ◌and◌
period_visible s h = all_weaker is_period_char is_visible (λ b e. or_cases (is_time_char b) (eqb b 47) e (λ c. char_visible b c) (λ c. rw (eqb-true b 47 c))) s h

period_no_comma : (s : List ℕ) → all_of is_period_char s ≡ true → holds 44 s ≡ false
unfolding is_period_char is_time_char ◌or◌ ◌and◌
period_no_comma s h = all_without is_period_char 44 refl s h

module _ (start end : List ℕ) (h : is_date_time start ≡ true) where
  pub period_explicit_visible : is_date_time end ≡ true → all_of is_visible (write_period start end) ≡ true
  period_explicit_visible k = period_visible _ (period_chars start end (date_time_chars start h) (date_time_chars end k))

  pub period_explicit_no_comma : is_date_time end ≡ true → holds 44 (write_period start end) ≡ false
  period_explicit_no_comma k = period_no_comma _ (period_chars start end (date_time_chars start h) (date_time_chars end k))

  pub period_start_visible : is_duration end ≡ true → all_of is_visible (write_period start end) ≡ true
  period_start_visible k = period_visible _ (period_chars start end (date_time_chars start h) (duration_chars end k))

  pub period_start_no_comma : is_duration end ≡ true → holds 44 (write_period start end) ≡ false
  period_start_no_comma k = period_no_comma _ (period_chars start end (date_time_chars start h) (duration_chars end k))
