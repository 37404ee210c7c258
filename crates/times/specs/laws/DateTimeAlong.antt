-- Laws of what specs/DateTimeAlong.antt defines.
--     date_time_along    a date-time is what follows the pattern and is a day and in range
use Rattle.std.specs.Prelude.{◌≡◌, refl, Bool, ℕ, ◌/◌, ◌%◌, eqb, leb, length, take, drop, Option, None, Some}
use Rattle.std.proofs.Common.{sym, ap, ◌∙◌, arith, length-take, take-append-drop, length-take-le, eqb-true, leb-true, leb-false, ne_eqb}
use Rattle.std.proofs.Math.Bool.{true, false}
use mathlib.Core.List.{List, [], ◌∷◌, ◌++◌}
use Rattle.octets.specs.Pick.{pick, ◌and◌}
use Rattle.octets.specs.laws.Pick.{and_both}
use Rattle.octets.specs.Append.{◌⊕◌}
use Rattle.octets.specs.Scan.{all_of}
use Rattle.octets.specs.Class.{is_digit, upper}
use Rattle.octets.specs.Decimal.{value}
use Rattle.octets.specs.Reading.{provided, and_then}
use Rattle.calendar.specs.Calendar.{format_of}
use Rattle.source.specs.Source.{rest}
use Rattle.times.specs.Spelling.{keep, begins, with_marks, without_marks, put_mark, fits}
use Rattle.times.specs.Pattern.{reached, lost, passes, tally, along, zeros, digits_at, followed_by, is_mark, are_marks}
use Rattle.times.specs.laws.Pattern.{along_marks, along_digits}
use Rattle.times.specs.Date.{is_date}
use Rattle.times.specs.DateAlong.{day_from}
use Rattle.times.specs.laws.DateAlong.{eight_day, no_digits, no_length}
use Rattle.times.specs.Time.{is_time}
use Rattle.times.specs.TimeAlong.{zone, clock_by}
use Rattle.times.specs.laws.TimeAlong.{clock_zone, six_enough, six_short, six_after, six_last}
use Rattle.times.specs.DateTime.{is_date_time, read_date_time, date_time_marks}
use Rattle.times.specs.Letters.{cased}
use Rattle.times.specs.Followed.{walked, Walks}
use Rattle.times.specs.DateTimeAlong.{date_time_pattern, join_time, moment_from, moment_by, moment}
use Rattle.times.specs.declared.follow.Walk.{Walk}
use Rattle.times.specs.declared.time.Zone.{Zone}

-- ---- the definition taken apart

unfoldable after_t : List ℕ → List ℕ → Option (List ℕ)
after_t d [] = None
after_t d (b ∷ r) = pick (eqb b 84) (join_time d (keep is_time r)) None

after_date : (v d l : List ℕ) → v ≡ d ++ l → provided (begins 84 is_time l) v ≡ after_t d l
unfolding begins after_t join_time keep pick ◌and◌ ◌⊕◌
after_date v d [] e = refl
after_date v d (b ∷ r) e = go (eqb b 84) (is_time r) refl
  where
    go : (t u : Bool) → eqb b 84 ≡ t → pick (t and u) (Some v) None ≡ pick t (join_time d (pick u (Some r) None)) None
    go true true q = ap Some (e ∙ ap (λ (x : ℕ). d ++ (x ∷ r)) (eqb-true b 84 q))
    go true false q = refl
    go false u q = refl

split : (v : List ℕ) → keep is_date_time v ≡ and_then (keep is_date (take 8 v)) (λ d. after_t d (drop 8 v))
unfolding keep is_date_time and_then pick ◌and◌
split v = go (is_date (take 8 v))
  where
    go : (t : Bool) → pick (t and begins 84 is_time (drop 8 v)) (Some v) None ≡ and_then (pick t (Some (take 8 v)) None) (λ d. after_t d (drop 8 v))
    go true = after_date v (take 8 v) (drop 8 v) (sym (take-append-drop 8 v))
    go false = refl

no_date : (v : List ℕ) → digits_at 8 v ≡ false → keep is_date (take 8 v) ≡ None
unfolding digits_at ◌and◌
no_date v h = go (leb 8 (length v)) refl h
  where
    go : (t : Bool) → leb 8 (length v) ≡ t → (t and all_of is_digit (take 8 v)) ≡ false → keep is_date (take 8 v) ≡ None
    go true e k = no_digits (take 8 v) k
    go false e k = no_length (take 8 v) (ne_eqb (length (take 8 v)) 8 (λ q. omega (arith, length-take 8 v, leb-false 8 (length v) e)))

some_date : (v : List ℕ) → digits_at 8 v ≡ true → keep is_date (take 8 v) ≡ day_from (value 0 (take 8 v))
unfolding digits_at
some_date v h = eight_day (take 8 v) (length-take-le 8 v (leb-true _ _ (and_both _ _ h).0)) (and_both _ _ h).1

-- ---- the time after a date that is worth n

pub then_none : {A B : Type 0} (o : Option A) → and_then {B = B} o (λ d. None) ≡ None
unfolding and_then
then_none None = refl
then_none (Some a) = refl

module _ (n : ℕ) where
  time_after : (r : List ℕ) → and_then (day_from n) (λ d. join_time d (keep is_time r)) ≡ moment (along (zeros 6 []) n r)
  unfolding along moment moment_from join_time pick
  time_after r = rw (along_digits 6 [] n r) (go (digits_at 6 r) refl)
    where
      go : (t : Bool) → digits_at 6 r ≡ t → and_then (day_from n) (λ d. join_time d (keep is_time r)) ≡ moment (pick t (reached (value n (take 6 r)) (drop 6 r)) lost)
      go true e = rw (six_enough r e, six_after r n e, six_last r n e)
      go false e = rw (six_short r e) (then_none (day_from n))

  t_after : (l : List ℕ) → and_then (day_from n) (λ d. after_t d l) ≡ moment (along (84 ∷ zeros 6 []) n l)
  unfolding along after_t moment pick passes tally
  t_after [] = then_none (day_from n)
  t_after (b ∷ r) = go (eqb b 84)
    where
      go : (t : Bool) → and_then (day_from n) (λ d. pick t (join_time d (keep is_time r)) None) ≡ moment (pick t (along (zeros 6 []) n r) lost)
      go true = time_after r
      go false = then_none (day_from n)

date_time_kept : (v : List ℕ) → keep is_date_time v ≡ moment (along (zeros 8 (84 ∷ zeros 6 [])) 0 v)
unfolding moment pick and_then
date_time_kept v = split v ∙ rw (along_digits 8 (84 ∷ zeros 6 []) 0 v) (go (digits_at 8 v) refl)
  where
    go : (t : Bool) → digits_at 8 v ≡ t → and_then (keep is_date (take 8 v)) (λ d. after_t d (drop 8 v)) ≡ moment (pick t (along (84 ∷ zeros 6 []) (value 0 (take 8 v)) (drop 8 v)) lost)
    go true e = rw (some_date v e) (t_after (value 0 (take 8 v)) (drop 8 v))
    go false e = rw (no_date v e)

marked : (o : Option (List ℕ)) → and_then o (keep is_date_time) ≡ moment (followed_by o (along (zeros 8 (84 ∷ zeros 6 [])) 0))
unfolding and_then followed_by moment
marked None = refl
marked (Some v) = date_time_kept v

pub date_time_along : (x : Bool) (s : List ℕ) → read_date_time (format_of x) s ≡ moment (along (date_time_pattern (format_of x)) 0 (cased x s))
unfolding read_date_time cased zeros with_marks put_mark are_marks is_mark fits pick ◌and◌
date_time_along false s = date_time_kept (upper s)
date_time_along true s = marked (without_marks date_time_marks s) ∙ ap moment (sym (along_marks date_time_marks (zeros 8 (84 ∷ zeros 6 [])) 0 s refl refl))

-- ---- the ways of a reader

pub moment_zone : (n : ℕ) (r : List ℕ) → moment_from n r ≡ and_then (zone r) (moment_by n)
unfolding moment_from moment_by and_then join_time
moment_zone n r = rw (clock_zone (n % 1000000) r) (go (zone r))
  where
    go : (o : Option Zone) → and_then (day_from (n / 1000000)) (λ d. join_time d (and_then o (clock_by (n % 1000000)))) ≡ and_then o (moment_by n)
    go None = then_none (day_from (n / 1000000))
    go (Some z) = refl

module _ (x : Bool) {m : ℕ} {s : List ℕ} {c : ℕ} {w : Option Walk} (p : Walks (date_time_pattern (format_of x)) x m s c w) where
  followed : read_date_time (format_of x) (rest m s c) ≡ moment (walked x m s w)
  followed = date_time_along x (rest m s c) ∙ ap moment p.is

  pub date_time_lost : w ≡ None → read_date_time (format_of x) (rest m s c) ≡ None
  unfolding moment
  date_time_lost h = followed ∙ rw h

  -- what follows the digits is o, if it is a zone
  pub date_time_ended : {v : Walk} {o : Option Zone} → w ≡ Some v → o ≡ zone (cased x (rest m s v.next)) → read_date_time (format_of x) (rest m s c) ≡ and_then o (moment_by v.number)
  unfolding moment
  date_time_ended {v} h e = followed ∙ rw (h, e) (moment_zone v.number _)

pub moment_day : (n : ℕ) (o : Option Zone) {d : List ℕ} {t : Option (List ℕ)} → day_from (n / 1000000) ≡ Some d → and_then o (clock_by (n % 1000000)) ≡ t → and_then o (moment_by n) ≡ join_time d t
unfolding moment_by and_then join_time
moment_day n None e h = rw (sym h)
moment_day n (Some z) e h = rw (e, h)

pub moment_none : (n : ℕ) (o : Option Zone) → day_from (n / 1000000) ≡ None → and_then o (moment_by n) ≡ None
unfolding moment_by and_then
moment_none n None e = refl
moment_none n (Some z) e = rw e
