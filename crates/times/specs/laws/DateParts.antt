-- DATE-TIME and PERIOD read their dates as DATE does: by `read_date`.
--     date_time_parts    a DATE-TIME is read exactly where its date is read as a DATE, and what stands behind T as a TIME;   moment_parts, of the text of a date
--     date_time_date     its date is the DATE that is read there
--     period_parts       a PERIOD is read exactly where its start is read as a DATE-TIME, and its end as a DATE-TIME or a DURATION
use Rattle.std.specs.Prelude.{◌≡◌, Bool, true, false, ℕ, zero, suc, ◌-◌, ◌≤◌, eqb, leb, length, Option, None, Some}
use Rattle.std.proofs.Math.Path.{refl, ap}
use Rattle.std.proofs.Common.{sym, ◌∙◌, arith, take-append-drop, eqb-true, ne_eqb}
use Rattle.std.proofs.lemmas.Bool.{false≢true, eqb-false, lt-leb}
use mathlib.Core.List.{List, [], ◌∷◌, ◌++◌}
use Rattle.std.proofs.Math.ListN.{take, drop}
use Rattle.octets.specs.Pick.{pick, ◌and◌, ◌or◌}
use Rattle.octets.specs.laws.Pick.{and_both, and_yes, and_no_right, or-false}
use Rattle.octets.specs.Append.{◌⊕◌}
use Rattle.octets.specs.Scan.{all_of}
use Rattle.octets.specs.Class.{is_digit, is_small, upper_byte, upper}
use Rattle.octets.specs.laws.Letters.{upper_by_cases}
use Rattle.octets.specs.Reading.{is_read, and_then}
use Rattle.octets.specs.laws.Reading.{read_some}
use Rattle.calendar.specs.Calendar.{Format, ical, xcal, period_explicit, period_start}
use Rattle.times.specs.Spelling.{begins, with_marks, put_mark}
use Rattle.times.specs.laws.Spelling.{chars_digits, chars_upper, keep_yes, keep_is, keep_read}
use Rattle.times.specs.Date.{is_date, read_date, write_date}
use Rattle.times.specs.laws.Date.{date_length, date_chars, date_accepted, date_exact, date_read_back}
use Rattle.times.specs.laws.DateAlong.{eight}
use Rattle.times.specs.Time.{is_time, read_time, write_time}
use Rattle.times.specs.laws.Time.{time_accepted, time_exact, time_read_back}
use Rattle.times.specs.DateTime.{is_date_time, read_date_time, write_date_time}
use Rattle.times.specs.laws.DateTime.{date_time_accepted, date_time_exact, date_time_read_back}
use Rattle.times.specs.Duration.{read_duration}
use Rattle.times.specs.Period.{period_from, read_period}
use Rattle.times.specs.Digits.{two_digits, date_of}
use Rattle.times.specs.DateText.{date_text, date_width, time_behind, before_slash, behind_slash}

and_same : {a b c d : Bool} → a ≡ c → b ≡ d → (a and b) ≡ (c and d)
and_same p q = rw (p, q)

-- ---- letter case: a date has no letters

take-upper : (n : ℕ) (s : List ℕ) → take n (upper s) ≡ upper (take n s)
unfolding upper
take-upper zero s = refl
take-upper (suc n) [] = refl
take-upper (suc n) (b ∷ s) = ap (λ (l : List ℕ). upper_byte b ∷ l) (take-upper n s)

drop-upper : (n : ℕ) (s : List ℕ) → drop n (upper s) ≡ upper (drop n s)
unfolding upper
drop-upper zero s = refl
drop-upper (suc n) [] = refl
drop-upper (suc n) (b ∷ s) = drop-upper n s

digit_upper : (b : ℕ) → is_digit (upper_byte b) ≡ is_digit b
digit_upper b =
    upper_by_cases (λ x. is_digit x ≡ is_digit b) b
    (λ l h. and_no_right (leb 48 (b - 32)) (leb (b - 32) 57) (lt-leb (b - 32) 57 (omega arith)) ∙ sym (and_no_right (leb 48 b) (leb b 57) (lt-leb b 57 (omega arith))))
    (λ e. refl)

digits_upper : (s : List ℕ) → all_of is_digit (upper s) ≡ all_of is_digit s
unfolding upper all_of
digits_upper [] = refl
digits_upper (b ∷ s) = rw (digit_upper b, digits_upper s)

date_upper : (s : List ℕ) → is_date (upper s) ≡ is_date s
unfolding is_date ◌and◌
date_upper s = go (all_of is_digit s) refl
  where
    go : (t : Bool) → all_of is_digit s ≡ t → is_date (upper s) ≡ is_date s
    go true e = ap is_date (chars_upper s (chars_digits s e))
    go false e = rw (digits_upper s, e) (and_no_right (eqb (length (upper s)) 8) false refl ∙ sym (and_no_right (eqb (length s) 8) false refl))

t_upper : (b : ℕ) → eqb (upper_byte b) 84 ≡ (eqb b 84 or eqb b 116)
unfolding ◌or◌ ◌and◌
t_upper b = upper_by_cases (λ x. eqb x 84 ≡ (eqb b 84 or eqb b 116)) b (λ l h. small l h (eqb b 116) refl) (λ e. other e (eqb b 116) refl)
  where
    small : 97 ≤ b → b ≤ 122 → (t : Bool) → eqb b 116 ≡ t → eqb (b - 32) 84 ≡ (eqb b 84 or eqb b 116)
    small l h true e = rw (eqb-true b 116 e)
    small l h false e = let n = eqb-false b 116 e in rw (ne_eqb b 84 (λ q. omega arith), e) (ne_eqb (b - 32) 84 (λ q. n (omega arith)))

    other : is_small b ≡ false → (t : Bool) → eqb b 116 ≡ t → eqb b 84 ≡ (eqb b 84 or eqb b 116)
    other e true q = absurd (false≢true (sym e ∙ ap is_small (eqb-true b 116 q)))
    other e false q = rw q (sym (or-false (eqb b 84)))

behind_text : (s : List ℕ) → begins 84 is_time (upper s) ≡ time_behind ical s
unfolding begins upper read_time
behind_text [] = refl
behind_text (b ∷ t) = and_same (t_upper b) (sym (keep_read is_time (upper t)))

-- ---- a date-time is a date, T and a time

record Parts (v : List ℕ) : Type 0 where
  pub d : List ℕ
  pub t : List ℕ
  pub is : v ≡ d ⊕ (84 ∷ t)
  pub date : is_date d ≡ true
  pub time : is_time t ≡ true

parted : (v : List ℕ) → is_date_time v ≡ true → Parts v
unfolding is_date_time begins ◌⊕◌
parted v h = let q = and_both (is_date (take 8 v)) (begins 84 is_time (drop 8 v)) h in go (drop 8 v) (take-append-drop 8 v) q.0 q.1
  where
    go : (r : List ℕ) → take 8 v ++ r ≡ v → is_date (take 8 v) ≡ true → begins 84 is_time r ≡ true → Parts v
    go [] e k l = absurd (false≢true l)
    go (b ∷ t) e k l =
        let q = and_both (eqb b 84) (is_time t) l in
        record { d = take 8 v; t = t; is = sym e ∙ ap (λ (x : ℕ). take 8 v ++ (x ∷ t)) (eqb-true b 84 q.0); date = k; time = q.1 }

joined_up : (d t : List ℕ) → is_date d ≡ true → is_time t ≡ true → is_date_time (d ⊕ (84 ∷ t)) ≡ true
unfolding is_date_time begins ◌⊕◌ ◌and◌
joined_up d t h k =
    eight (λ (d : List ℕ). is_date d ≡ true → is_date_time (d ⊕ (84 ∷ t)) ≡ true) (λ a b c d e f g h p. and_yes (is_date (a ∷ b ∷ c ∷ d ∷ e ∷ f ∷ g ∷ h ∷ [])) (is_time t) p k) d (date_length d h) h

module _ (d t : List ℕ) (h : is_date d ≡ true) where
  date_front : take 8 (d ⊕ (84 ∷ t)) ≡ d
  unfolding ◌⊕◌
  date_front = eight (λ (d : List ℕ). take 8 (d ⊕ (84 ∷ t)) ≡ d) (λ a b c d e f g h. refl) d (date_length d h)

  written_parts : write_date_time xcal (d ⊕ (84 ∷ t)) ≡ write_date xcal d ⊕ (84 ∷ write_time xcal t)
  unfolding write_date_time write_date write_time with_marks put_mark ◌⊕◌
  written_parts = eight (λ (d : List ℕ). write_date_time xcal (d ⊕ (84 ∷ t)) ≡ write_date xcal d ⊕ (84 ∷ write_time xcal t)) (λ a b c d e f g h. refl) d (date_length d h)

  marked_front : take 10 (write_date xcal d ⊕ (84 ∷ t)) ≡ write_date xcal d
  unfolding write_date with_marks put_mark ◌⊕◌
  marked_front = eight (λ (d : List ℕ). take 10 (write_date xcal d ⊕ (84 ∷ t)) ≡ write_date xcal d) (λ a b c d e f g h. refl) d (date_length d h)

  marked_behind : drop 10 (write_date xcal d ⊕ (84 ∷ t)) ≡ 84 ∷ t
  unfolding write_date with_marks put_mark ◌⊕◌
  marked_behind = eight (λ (d : List ℕ). drop 10 (write_date xcal d ⊕ (84 ∷ t)) ≡ 84 ∷ t) (λ a b c d e f g h. refl) d (date_length d h)

is_read_lem : {o : Option (List ℕ)} {v : List ℕ} → o ≡ Some v → is_read o ≡ true
unfolding is_read
is_read_lem e = ap is_read e

both_ways : (a b : Bool) → (a ≡ true → b ≡ true) → (b ≡ true → a ≡ true) → a ≡ b
both_ways true b p q = sym (p refl)
both_ways false true p q = q refl
both_ways false false p q = refl

-- in XML: what stands before T is read as a date, what stands behind it as a time
module _ (s v : List ℕ) (e : read_date_time xcal s ≡ Some v) where
  found : Parts v
  found = parted v (date_time_accepted xcal s v e)

  found_is : s ≡ write_date xcal found.d ⊕ (84 ∷ write_time xcal found.t)
  found_is = date_time_exact s v e ∙ ap (write_date_time xcal) found.is ∙ written_parts found.d found.t found.date

  found_date : read_date xcal (take 10 s) ≡ Some found.d
  found_date =
      ap (λ (x : List ℕ). read_date xcal (take 10 x)) found_is ∙ ap (read_date xcal) (marked_front found.d (write_time xcal found.t) found.date)
      ∙ date_read_back xcal found.d found.date

  found_time : time_behind xcal (drop 10 s) ≡ true
  unfolding is_read ◌and◌
  found_time =
      ap (λ (x : List ℕ). time_behind xcal (drop 10 x)) found_is ∙ ap (time_behind xcal) (marked_behind found.d (write_time xcal found.t) found.date)
      ∙ ap is_read (time_read_back xcal found.t found.time)

joined_read : (s d : List ℕ) → read_date xcal (take 10 s) ≡ Some d → time_behind xcal (drop 10 s) ≡ true → is_read (read_date_time xcal s) ≡ true
unfolding is_read ◌⊕◌
joined_read s d e h = go (drop 10 s) (take-append-drop 10 s) h
  where
    go : (r : List ℕ) → take 10 s ++ r ≡ s → time_behind xcal r ≡ true → is_read (read_date_time xcal s) ≡ true
    go [] q k = absurd (false≢true k)
    go (b ∷ u) q k =
        let p = and_both (eqb b 84) (is_read (read_time xcal u)) k in
        let t = read_some (read_time xcal u) p.1 in
        let date = date_accepted xcal (take 10 s) d e in
        let a : take 10 s ≡ write_date xcal d = date_exact xcal (take 10 s) d e in
        let c : b ≡ 84 = eqb-true b 84 p.0 in
        let w : u ≡ write_time xcal t.0 = time_exact u t.0 t.1 in
        let z : s ≡ write_date xcal d ++ (84 ∷ write_time xcal t.0) =
        sym q ∙ ap (λ (x : List ℕ). x ++ (b ∷ u)) a ∙ ap (λ (x : ℕ). write_date xcal d ++ (x ∷ u)) c ∙ ap (λ (x : List ℕ). write_date xcal d ++ (84 ∷ x)) w in
        ap (λ (x : List ℕ). is_read (read_date_time xcal x)) (z ∙ sym (written_parts d t.0 date))
        ∙ ap is_read (date_time_read_back xcal (d ⊕ (84 ∷ t.0)) (joined_up d t.0 date (time_accepted xcal u t.0 t.1)))

-- ---- DATE-TIME is read exactly where its date is read by read_date and its time by read_time
pub date_time_parts : (f : Format) (s : List ℕ) → is_read (read_date_time f s) ≡ (is_read (read_date f (take (date_width f) s)) and time_behind f (drop (date_width f) s))
unfolding read_date_time read_date is_date_time
date_time_parts ical s =
    keep_read is_date_time (upper s)
    ∙ and_same (ap is_date (take-upper 8 s) ∙ date_upper (take 8 s) ∙ sym (keep_read is_date (take 8 s))) (ap (begins 84 is_time) (drop-upper 8 s) ∙ behind_text (drop 8 s))
date_time_parts xcal s =
    both_ways (is_read (read_date_time xcal s)) (is_read (read_date xcal (take 10 s)) and time_behind xcal (drop 10 s)) there
    (λ h. let q = and_both (is_read (read_date xcal (take 10 s))) (time_behind xcal (drop 10 s)) h in let d = read_some (read_date xcal (take 10 s)) q.0 in joined_read s d.0 d.1 q.1)
  where
    there : is_read (read_date_time xcal s) ≡ true → (is_read (read_date xcal (take 10 s)) and time_behind xcal (drop 10 s)) ≡ true
    there h =
        let v = read_some (read_date_time xcal s) h in
        and_yes (is_read (read_date xcal (take 10 s))) (time_behind xcal (drop 10 s)) (is_read_lem (found_date s v.0 v.1)) (found_time s v.0 v.1)

-- and its date is the front of what is kept
pub date_time_date : (f : Format) (s v : List ℕ) → read_date_time f s ≡ Some v → read_date f (take (date_width f) s) ≡ Some (take 8 v)
unfolding read_date_time read_date is_date_time is_date
date_time_date ical s v e =
    let u : upper s ≡ v = keep_is is_date_time (upper s) v e in
    let front : take 8 v ≡ upper (take 8 s) = ap (take 8) (sym u) ∙ take-upper 8 s in
    let d : is_date (take 8 s) ≡ true = sym (date_upper (take 8 s)) ∙ ap is_date (sym front) ∙ (and_both (is_date (take 8 v)) (begins 84 is_time (drop 8 v)) (date_time_accepted ical s v e)).0 in
    keep_yes is_date (take 8 s) d ∙ ap Some (sym (front ∙ chars_upper (take 8 s) (date_chars (take 8 s) d)))
date_time_date xcal s v e =
    let p = found s v e in
    found_date s v e ∙ ap Some (sym (ap (take 8) p.is ∙ date_front p.d p.t p.date))

-- ---- PERIOD is read exactly where its start is read by read_date_time, and its end by read_date_time or its duration by read_duration

period_end : (start r : List ℕ) → is_read (period_from start r) ≡ (is_read (read_date_time ical r) or is_read (read_duration ical r))
unfolding period_from read_date_time is_read and_then pick ◌or◌
period_end start r = go (is_date_time (upper r)) (read_duration ical r) ∙ rw (keep_read is_date_time (upper r))
  where
    go : (t : Bool) (o : Option (List ℕ)) →
        is_read (pick t (Some (period_explicit start (upper r))) (and_then o (λ d. Some (period_start start d)))) ≡ (t or is_read o)
    go true o = refl
    go false None = refl
    go false (Some d) = refl

pub period_parts : (s : List ℕ) →
    is_read (read_period s) ≡ (is_read (read_date_time ical (before_slash s)) and (is_read (read_date_time ical (behind_slash s)) or is_read (read_duration ical (behind_slash s))))
unfolding read_period and_then is_read ◌and◌
period_parts s = go (read_date_time ical (before_slash s)) (behind_slash s)
  where
    go : (o : Option (List ℕ)) (r : List ℕ) →
        is_read (and_then o (λ start. period_from start r)) ≡ (is_read o and (is_read (read_date_time ical r) or is_read (read_duration ical r)))
    go None r = refl
    go (Some start) r = period_end start r

-- ---- the text of a date with T and any characters behind it
module _ (y m d : ℕ) (t : List ℕ) where
  text_front : (f : Format) → take (date_width f) (date_text f y m d ⊕ (84 ∷ t)) ≡ date_text f y m d
  unfolding date_text date_of two_digits ◌⊕◌
  text_front ical = refl
  text_front xcal = refl

  text_behind : (f : Format) → drop (date_width f) (date_text f y m d ⊕ (84 ∷ t)) ≡ 84 ∷ t
  unfolding date_text date_of two_digits ◌⊕◌
  text_behind ical = refl
  text_behind xcal = refl

  t_behind : (f : Format) → time_behind f (84 ∷ t) ≡ is_read (read_time f t)
  unfolding ◌and◌ ◌or◌
  t_behind ical = refl
  t_behind xcal = refl

  pub moment_parts : (f : Format) → is_read (read_date_time f (date_text f y m d ⊕ (84 ∷ t))) ≡ (is_read (read_date f (date_text f y m d)) and is_read (read_time f t))
  moment_parts f =
      date_time_parts f (date_text f y m d ⊕ (84 ∷ t)) ∙ and_same (ap (λ (x : List ℕ). is_read (read_date f x)) (text_front f)) (ap (time_behind f) (text_behind f) ∙ t_behind f)
