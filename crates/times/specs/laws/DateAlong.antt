-- Laws of what specs/DateAlong.antt defines.
--     eight          a list of eight characters
--     date_along     a date is what follows the pattern to the end and is a day
use Rattle.std.specs.Prelude.{◌≡◌, refl, Bool, true, false, List, [], ◌∷◌, ℕ, ◌+◌, ◌*◌, ◌/◌, ◌%◌, ◌≤◌, ◌<◌, eqb, length, take, drop, Option, None, Some}
use Rattle.std.proofs.Common.{sym, ◌∙◌, drop_of_length-le, take_all, eqb-true, leb-true}
use Rattle.std.proofs.Math.Path.{ap}
use native.Mathlib.Omega.{arith}
use Rattle.std.proofs.lemmas.Bool.{eqb-false}
use Rattle.octets.specs.Pick.{pick, ◌and◌}
use Rattle.octets.specs.laws.Pick.{and_no_right, and_both}
use Rattle.octets.specs.Append.{◌⊕◌}
use Rattle.octets.specs.Scan.{all_of}
use Rattle.octets.specs.laws.Scan.{all_split}
use Rattle.octets.specs.Class.{is_digit}
use Rattle.octets.specs.Words.{is_empty}
use Rattle.octets.specs.Decimal.{value, digit_of}
use Rattle.octets.specs.Reading.{provided, and_then}
use Rattle.calendar.specs.Calendar.{Format, ical, xcal}
use Rattle.source.specs.Source.{rest}
use Rattle.times.specs.Spelling.{keep, with_marks, without_marks, put_mark, fits}
use Rattle.times.specs.Pattern.{reached, lost, along, zeros, digits_at, followed_by, is_mark, are_marks}
use Rattle.times.specs.laws.Pattern.{along_marks, along_digits, worth2, worth4}
use Rattle.gregorian.specs.Month.{is_day}
use Rattle.times.specs.Date.{is_date, read_date, date_marks}
use Rattle.times.specs.Digits.{date_of}
use Rattle.times.specs.Letters.{cased}
use Rattle.times.specs.Followed.{walked, Walks}
use Rattle.times.specs.laws.Digits.{digit_is, digit_small, two_of, drop_longer}
use Rattle.times.specs.DateAlong.{date_pattern, day_from, dated}
use Rattle.times.specs.declared.follow.Walk.{Walk}

-- ---- eight digits

-- a list of eight
pub eight : (P : List ℕ → Type 0) → ((a b c d e f g h : ℕ) → P (a ∷ b ∷ c ∷ d ∷ e ∷ f ∷ g ∷ h ∷ [])) → (v : List ℕ) → length v ≡ 8 → P v
eight P q [] l = absurd (omega arith)
eight P q (a ∷ []) l = absurd (omega arith)
eight P q (a ∷ b ∷ []) l = absurd (omega arith)
eight P q (a ∷ b ∷ c ∷ []) l = absurd (omega arith)
eight P q (a ∷ b ∷ c ∷ d ∷ []) l = absurd (omega arith)
eight P q (a ∷ b ∷ c ∷ d ∷ e ∷ []) l = absurd (omega arith)
eight P q (a ∷ b ∷ c ∷ d ∷ e ∷ f ∷ []) l = absurd (omega arith)
eight P q (a ∷ b ∷ c ∷ d ∷ e ∷ f ∷ g ∷ []) l = absurd (omega arith)
eight P q (a ∷ b ∷ c ∷ d ∷ e ∷ f ∷ g ∷ h ∷ []) l = q a b c d e f g h
eight P q (a ∷ b ∷ c ∷ d ∷ e ∷ f ∷ g ∷ h ∷ i ∷ v) l = absurd (omega arith)

abbrev worth8 : ℕ → ℕ → ℕ → ℕ → ℕ → ℕ → ℕ → ℕ → ℕ
worth8 a b c d e f g h = (((worth4 a b c d * 10 + e) * 10 + f) * 10 + g) * 10 + h

module _ (a b c d e f g h : ℕ) (pa : a < 10) (pb : b < 10) (pc : c < 10) (pd : d < 10) (pe : e < 10) (pf : f < 10) (pg : g < 10) (ph : h < 10) where
  year_digits_lem : worth8 a b c d e f g h / 10000 % 10000 ≡ worth4 a b c d
  year_digits_lem = omega arith

  month_digits : worth8 a b c d e f g h / 100 % 100 ≡ worth2 e f
  month_digits = omega arith

  day_digits : worth8 a b c d e f g h % 100 ≡ worth2 g h
  day_digits = omega arith

  date_digits : date_of (worth4 a b c d) (worth2 e f) (worth2 g h) ≡ (48 + a) ∷ (48 + b) ∷ (48 + c) ∷ (48 + d) ∷ (48 + e) ∷ (48 + f) ∷ (48 + g) ∷ (48 + h) ∷ []
  unfolding date_of ◌⊕◌
  date_digits =
      let p : worth4 a b c d / 100 ≡ a * 10 + b = omega arith in
      let q : worth4 a b c d % 100 ≡ c * 10 + d = omega arith in
      let m : worth2 e f ≡ e * 10 + f = omega arith in
      let n : worth2 g h ≡ g * 10 + h = omega arith in
      rw (p, q, m, n, two_of a b pa pb, two_of c d pc pd, two_of e f pe pf, two_of g h pg ph)

  day_worth : day_from (worth8 a b c d e f g h) ≡ provided (is_day (worth4 a b c d) (worth2 e f) (worth2 g h)) ((48 + a) ∷ (48 + b) ∷ (48 + c) ∷ (48 + d) ∷ (48 + e) ∷ (48 + f) ∷ (48 + g) ∷ (48 + h) ∷ [])
  unfolding day_from
  day_worth = rw (year_digits_lem, month_digits, day_digits, date_digits)

-- eight digits are a date if they are a day's
pub eight_day : (v : List ℕ) → length v ≡ 8 → all_of is_digit v ≡ true → keep is_date v ≡ day_from (value 0 v)
unfolding keep is_date value ◌and◌
eight_day v l k = eight (λ (v : List ℕ). all_of is_digit v ≡ true → keep is_date v ≡ day_from (value 0 v)) go v l k
  where
    go : (a b c d e f g h : ℕ) → all_of is_digit (a ∷ b ∷ c ∷ d ∷ e ∷ f ∷ g ∷ h ∷ []) ≡ true →
        keep is_date (a ∷ b ∷ c ∷ d ∷ e ∷ f ∷ g ∷ h ∷ []) ≡ day_from (value 0 (a ∷ b ∷ c ∷ d ∷ e ∷ f ∷ g ∷ h ∷ []))
    go a b c d e f g h k =
        let tb = (all_split is_digit a _ k).1 in let tc = (all_split is_digit b _ tb).1 in let td = (all_split is_digit c _ tc).1 in let te = (all_split is_digit d _ td).1 in
        let tf = (all_split is_digit e _ te).1 in let tg = (all_split is_digit f _ tf).1 in let th = (all_split is_digit g _ tg).1 in
        let ea = digit_is a (all_split is_digit a _ k).0 in let eb = digit_is b (all_split is_digit b _ tb).0 in let ec = digit_is c (all_split is_digit c _ tc).0 in
        let ed = digit_is d (all_split is_digit d _ td).0 in let ee = digit_is e (all_split is_digit e _ te).0 in let ef = digit_is f (all_split is_digit f _ tf).0 in
        let eg = digit_is g (all_split is_digit g _ tg).0 in let eh = digit_is h (all_split is_digit h _ th).0 in
        rw (
          k,
          day_worth (digit_of a) (digit_of b) (digit_of c) (digit_of d) (digit_of e) (digit_of f) (digit_of g) (digit_of h)
              (digit_small a) (digit_small b) (digit_small c) (digit_small d) (digit_small e) (digit_small f) (digit_small g) (digit_small h),
          ← ea,
          ← eb,
          ← ec,
          ← ed,
          ← ee,
          ← ef,
          ← eg,
          ← eh,
        )

pub no_digits : (v : List ℕ) → all_of is_digit v ≡ false → keep is_date v ≡ None
unfolding keep is_date pick ◌and◌
no_digits v e = rw (e, and_no_right (eqb (length v) 8) false refl)

pub no_length : (v : List ℕ) → eqb (length v) 8 ≡ false → keep is_date v ≡ None
unfolding keep is_date pick ◌and◌
no_length v e = rw e

date_of_size : (v : List ℕ) → length v ≡ 8 → keep is_date v ≡ dated (pick (digits_at 8 v) (reached (value 0 (take 8 v)) (drop 8 v)) lost)
unfolding dated digits_at pick ◌and◌
date_of_size v l =
    let m : length v ≤ 8 = omega arith in
    rw (l, take_all 8 v m, drop_of_length-le v m) (digits (all_of is_digit v) refl)
  where
    digits : (t : Bool) → all_of is_digit v ≡ t → keep is_date v ≡ dated (pick t (reached (value 0 v) []) lost)
    digits true e = eight_day v l e
    digits false e = no_digits v e

date_kept : (v : List ℕ) → keep is_date v ≡ dated (along (zeros 8 []) 0 v)
unfolding along dated digits_at pick
date_kept v = rw (along_digits 8 [] 0 v) (go (eqb (length v) 8) refl)
  where
    long : (t : Bool) → digits_at 8 v ≡ t → (length v ≡ 8 → ⊥) → None ≡ dated (pick t (reached (value 0 (take 8 v)) (drop 8 v)) lost)
    long true e n = rw (drop_longer 8 v (omega (arith, leb-true 8 (length v) (and_both _ _ e).0)))
    long false e n = refl

    go : (t : Bool) → eqb (length v) 8 ≡ t → keep is_date v ≡ dated (pick (digits_at 8 v) (reached (value 0 (take 8 v)) (drop 8 v)) lost)
    go true e = date_of_size v (eqb-true _ _ e)
    go false e = rw (no_length v e) (long (digits_at 8 v) refl (eqb-false _ _ e))

-- the same with marks
marked : (o : Option (List ℕ)) → and_then o (keep is_date) ≡ dated (followed_by o (along (zeros 8 []) 0))
unfolding and_then followed_by dated
marked None = refl
marked (Some v) = date_kept v

pub date_along : (f : Format) (s : List ℕ) → read_date f s ≡ dated (along (date_pattern f) 0 s)
unfolding read_date zeros with_marks put_mark are_marks is_mark fits pick ◌and◌
date_along ical s = date_kept s
date_along xcal s = marked (without_marks date_marks s) ∙ ap dated (sym (along_marks date_marks (zeros 8 []) 0 s refl refl))

-- ---- the ways of a reader

module _ (f : Format) {m : ℕ} {s : List ℕ} {c : ℕ} {w : Option Walk} (p : Walks (date_pattern f) true m s c w) where
  followed : read_date f (rest m s c) ≡ dated (walked true m s w)
  unfolding cased
  followed = date_along f (rest m s c) ∙ ap dated p.is

  pub date_lost : w ≡ None → read_date f (rest m s c) ≡ None
  unfolding dated
  date_lost h = followed ∙ rw h

  pub date_ended : {v : Walk} → w ≡ Some v → is_empty (rest m s v.next) ≡ true → read_date f (rest m s c) ≡ day_from v.number
  unfolding dated pick cased
  date_ended h k = followed ∙ rw (h, k)

  pub date_longer : {v : Walk} → w ≡ Some v → is_empty (rest m s v.next) ≡ false → read_date f (rest m s c) ≡ None
  unfolding dated pick cased
  date_longer h k = followed ∙ rw (h, k)

pub day_found : (n : ℕ) → is_day (n / 10000 % 10000) (n / 100 % 100) (n % 100) ≡ true → day_from n ≡ Some (date_of (n / 10000 % 10000) (n / 100 % 100) (n % 100))
unfolding day_from pick
day_found n h = rw h

pub day_missing : (n : ℕ) → is_day (n / 10000 % 10000) (n / 100 % 100) (n % 100) ≡ false → day_from n ≡ None
unfolding day_from pick
day_missing n h = rw h
