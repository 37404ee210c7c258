-- Laws of what specs/TimeAlong.antt defines.
--     time_along     a time is what follows the pattern and is in range
use Rattle.std.specs.Prelude.{◌≡◌, refl, Bool, true, false, List, [], ◌∷◌, ℕ, ◌+◌, ◌*◌, ◌/◌, ◌%◌, ◌≤◌, ◌<◌, eqb, leb, length, take, drop, Option, None, Some}
use Rattle.std.proofs.Math.Path.{sym}
use Rattle.std.proofs.Common.{ap, ◌∙◌, leb-true, le-leb, eq-eqb, ne_eqb, rules}
use Rattle.std.proofs.lemmas.Bool.{false≢true}
use native.Mathlib.Omega.{arith}
use Rattle.octets.specs.Pick.{pick, ◌and◌, ◌or◌}
use Rattle.octets.specs.laws.Pick.{and_no_right, flag_yes, flag_no, and_both, and-true}
use Rattle.octets.specs.Append.{◌⊕◌}
use Rattle.octets.specs.Scan.{all_of}
use Rattle.octets.specs.laws.Scan.{all_split}
use Rattle.octets.specs.Ascii.{ascii}
use Rattle.octets.specs.Class.{is_digit, upper}
use Rattle.octets.specs.Words.{is_empty, same}
use Rattle.octets.specs.laws.Words.{same_true}
use Rattle.octets.specs.Decimal.{value, digit_of}
use Rattle.octets.specs.Reading.{provided, and_then}
use Rattle.calendar.specs.Calendar.{format_of}
use Rattle.source.specs.Source.{rest}
use Rattle.source.specs.laws.Facts.{spell_byte, spell_end}
use Rattle.times.specs.Spelling.{keep, with_marks, without_marks, put_mark, fits}
use Rattle.times.specs.Pattern.{reached, lost, along, zeros, digits_at, followed_by, is_mark, are_marks}
use Rattle.times.specs.laws.Pattern.{along_marks, along_digits, worth2}
use Rattle.times.specs.Time.{is_clock, is_time, read_time, time_marks}
use Rattle.times.specs.Letters.{cased, Spells}
use Rattle.times.specs.laws.Letters.{cased_empty}
use Rattle.times.specs.Followed.{walked, Walks}
use Rattle.times.specs.laws.Digits.{digit_is, digit_small, two_of}
use Rattle.times.specs.TimeAlong.{time_pattern, is_hms, is_zone, hms, clock_from, timed, zone, is_utc, time_of, clock_by}
use Rattle.source.specs.declared.points.Unit.{Unit}
use Rattle.times.specs.declared.follow.Walk.{Walk}
use Rattle.times.specs.declared.time.Zone.{Zone}
use Rattle.times.specs.declared.time.Zone.TheVariants.{Local, Utc}

-- ---- six digits

-- a list of six and more
six : (P : List ℕ → Type 0) → ((a b c d e f : ℕ) (r : List ℕ) → P (a ∷ b ∷ c ∷ d ∷ e ∷ f ∷ r)) → (v : List ℕ) → 6 ≤ length v → P v
six P q [] l = absurd (omega arith)
six P q (a ∷ []) l = absurd (omega arith)
six P q (a ∷ b ∷ []) l = absurd (omega arith)
six P q (a ∷ b ∷ c ∷ []) l = absurd (omega arith)
six P q (a ∷ b ∷ c ∷ d ∷ []) l = absurd (omega arith)
six P q (a ∷ b ∷ c ∷ d ∷ e ∷ []) l = absurd (omega arith)
six P q (a ∷ b ∷ c ∷ d ∷ e ∷ f ∷ r) l = q a b c d e f r

abbrev worth6 : ℕ → ℕ → ℕ → ℕ → ℕ → ℕ → ℕ → ℕ
worth6 n a b c d e f = (((((n * 10 + a) * 10 + b) * 10 + c) * 10 + d) * 10 + e) * 10 + f

module _ (a b c d e f : ℕ) (pa : a < 10) (pb : b < 10) (pc : c < 10) (pd : d < 10) (pe : e < 10) (pf : f < 10) where
  clock_worth : (r : List ℕ) → clock_from (worth6 0 a b c d e f) r
      ≡ provided (is_hms (worth2 a b) (worth2 c d) (worth2 e f) and is_zone r) ((48 + a) ∷ (48 + b) ∷ (48 + c) ∷ (48 + d) ∷ (48 + e) ∷ (48 + f) ∷ r)
  unfolding clock_from hms ◌⊕◌
  clock_worth r =
      let p : worth6 0 a b c d e f / 10000 % 100 ≡ worth2 a b = omega arith in
      let q : worth6 0 a b c d e f / 100 % 100 ≡ worth2 c d = omega arith in
      let t : worth6 0 a b c d e f % 100 ≡ worth2 e f = omega arith in
      let x : worth2 a b ≡ a * 10 + b = omega arith in
      let y : worth2 c d ≡ c * 10 + d = omega arith in
      let z : worth2 e f ≡ e * 10 + f = omega arith in
      rw (p, q, t, x, y, z, two_of a b pa pb, two_of c d pc pd, two_of e f pe pf)

  after_worth : (n : ℕ) → worth6 n a b c d e f / 1000000 ≡ n
  after_worth n = omega arith

  last_worth : (n : ℕ) → worth6 n a b c d e f % 1000000 ≡ worth6 0 a b c d e f
  last_worth n = omega arith

-- six digits are a time if they are a clock's, and Z or nothing follows
six_clock : (v : List ℕ) → 6 ≤ length v → all_of is_digit (take 6 v) ≡ true → keep is_time v ≡ clock_from (value 0 (take 6 v)) (drop 6 v)
unfolding keep is_time is_clock is_hms is_zone value ◌and◌
six_clock v l k = six (λ (v : List ℕ). 6 ≤ length v → all_of is_digit (take 6 v) ≡ true → keep is_time v ≡ clock_from (value 0 (take 6 v)) (drop 6 v)) go v l l k
  where
    go : (a b c d e f : ℕ) (r : List ℕ) → 6 ≤ length (a ∷ b ∷ c ∷ d ∷ e ∷ f ∷ r) → all_of is_digit (a ∷ b ∷ c ∷ d ∷ e ∷ f ∷ []) ≡ true →
        keep is_time (a ∷ b ∷ c ∷ d ∷ e ∷ f ∷ r) ≡ clock_from (value 0 (a ∷ b ∷ c ∷ d ∷ e ∷ f ∷ [])) r
    go a b c d e f r l k =
        let tb = (all_split is_digit a _ k).1 in let tc = (all_split is_digit b _ tb).1 in let td = (all_split is_digit c _ tc).1 in let te = (all_split is_digit d _ td).1 in
        let tf = (all_split is_digit e _ te).1 in
        let ea = digit_is a (all_split is_digit a _ k).0 in let eb = digit_is b (all_split is_digit b _ tb).0 in let ec = digit_is c (all_split is_digit c _ tc).0 in
        let ed = digit_is d (all_split is_digit d _ td).0 in let ee = digit_is e (all_split is_digit e _ te).0 in let ef = digit_is f (all_split is_digit f _ tf).0 in
        rw (
          le-leb 6 _ l,
          k,
          clock_worth (digit_of a) (digit_of b) (digit_of c) (digit_of d) (digit_of e) (digit_of f)
              (digit_small a) (digit_small b) (digit_small c) (digit_small d) (digit_small e) (digit_small f) r,
          ← ea,
          ← eb,
          ← ec,
          ← ed,
          ← ee,
          ← ef,
        )

-- without six digits there is no time
no_clock : (v : List ℕ) → digits_at 6 v ≡ false → is_time v ≡ false
unfolding digits_at is_time is_clock ◌and◌
no_clock v h = go (leb 6 (length v)) (all_of is_digit (take 6 v)) h
  where
    go : (t u : Bool) → (t and u) ≡ false → (t and (u and leb (value 0 (take 2 (take 6 v))) 23 and leb (value 0 (take 2 (drop 2 (take 6 v)))) 59 and leb (value 0 (drop 4 (take 6 v))) 60) and (is_empty (drop 6 v) or same (drop 6 v) (ascii "Z"))) ≡ false
    go true true k = absurd (false≢true (sym k))
    go true false k = refl
    go false u k = refl

pub six_enough : (v : List ℕ) → digits_at 6 v ≡ true → keep is_time v ≡ clock_from (value 0 (take 6 v)) (drop 6 v)
unfolding digits_at
six_enough v e = six_clock v (leb-true _ _ (and_both _ _ e).0) (and_both _ _ e).1

pub six_short : (v : List ℕ) → digits_at 6 v ≡ false → keep is_time v ≡ None
unfolding keep pick
six_short v e = rw (no_clock v e)

-- six digits after a number
pub six_after : (v : List ℕ) (n : ℕ) → digits_at 6 v ≡ true → value n (take 6 v) / 1000000 ≡ n
unfolding digits_at value
six_after v n h = six (λ (v : List ℕ). value n (take 6 v) / 1000000 ≡ n) (λ a b c d e f r. after_worth (digit_of a) (digit_of b) (digit_of c) (digit_of d) (digit_of e) (digit_of f)
    (digit_small a) (digit_small b) (digit_small c) (digit_small d) (digit_small e) (digit_small f) n) v (leb-true _ _ (and_both _ _ h).0)

pub six_last : (v : List ℕ) (n : ℕ) → digits_at 6 v ≡ true → value n (take 6 v) % 1000000 ≡ value 0 (take 6 v)
unfolding digits_at value
six_last v n h = six (λ (v : List ℕ). value n (take 6 v) % 1000000 ≡ value 0 (take 6 v)) (λ a b c d e f r. last_worth (digit_of a) (digit_of b) (digit_of c) (digit_of d) (digit_of e) (digit_of f)
    (digit_small a) (digit_small b) (digit_small c) (digit_small d) (digit_small e) (digit_small f) n) v (leb-true _ _ (and_both _ _ h).0)

pub time_kept : (v : List ℕ) → keep is_time v ≡ timed (along (zeros 6 []) 0 v)
unfolding along timed pick
time_kept v = rw (along_digits 6 [] 0 v) (go (digits_at 6 v) refl)
  where
    go : (t : Bool) → digits_at 6 v ≡ t → keep is_time v ≡ timed (pick t (reached (value 0 (take 6 v)) (drop 6 v)) lost)
    go true e = six_enough v e
    go false e = six_short v e

marked : (o : Option (List ℕ)) → and_then o (keep is_time) ≡ timed (followed_by o (along (zeros 6 []) 0))
unfolding and_then followed_by timed
marked None = refl
marked (Some v) = time_kept v

-- in text letters count as capitals
pub time_along : (x : Bool) (s : List ℕ) → read_time (format_of x) s ≡ timed (along (time_pattern (format_of x)) 0 (cased x s))
unfolding read_time cased zeros with_marks put_mark are_marks is_mark fits pick ◌and◌
time_along false s = time_kept (upper s)
time_along true s = marked (without_marks time_marks s) ∙ ap timed (sym (along_marks time_marks (zeros 6 []) 0 s refl refl))

-- ---- what follows the digits, by its kind

clock_end : (n : ℕ) → clock_from n [] ≡ clock_by n Local
unfolding clock_from clock_by time_of is_zone pick ◌or◌
clock_end n = rw (and-true (is_hms (n / 10000 % 100) (n / 100 % 100) (n % 100)))

clock_z : (n : ℕ) → clock_from n (ascii "Z") ≡ clock_by n Utc
unfolding clock_from clock_by time_of is_zone same pick ◌or◌ ◌and◌
clock_z n = rw (and-true (is_hms (n / 10000 % 100) (n / 100 % 100) (n % 100)))

clock_other : (n : ℕ) (r : List ℕ) → is_zone r ≡ false → clock_from n r ≡ None
unfolding clock_from pick
clock_other n r e = rw (e, and_no_right (is_hms (n / 10000 % 100) (n / 100 % 100) (n % 100)) false refl)

pub clock_zone : (n : ℕ) (r : List ℕ) → clock_from n r ≡ and_then (zone r) (clock_by n)
unfolding zone is_zone and_then pick ◌or◌
clock_zone n [] = clock_end n
clock_zone n (b ∷ l) = go (same (b ∷ l) (ascii "Z")) refl
  where
    go : (t : Bool) → same (b ∷ l) (ascii "Z") ≡ t → clock_from n (b ∷ l) ≡ and_then (provided t Utc) (clock_by n)
    go true e = rw (same_true (b ∷ l) (ascii "Z") e) (clock_z n)
    go false e = clock_other n (b ∷ l) e

same_end : (l : List ℕ) → same l [] ≡ is_empty l
unfolding same
same_end [] = refl
same_end (b ∷ l) = refl

same_z : (u : ℕ) (l : List ℕ) → same (u ∷ l) (ascii "Z") ≡ (eqb u 90 and is_empty l)
unfolding same
same_z u l = ap (λ (t : Bool). eqb u 90 and t) (same_end l)

module _ {e : Bool} {m : ℕ} {s : List ℕ} {c : ℕ} {a : Unit} (p : Spells e m s c a) where
  pub zone_none : a.u ≡ 256 → Some Local ≡ zone (cased e (rest m s c))
  unfolding zone pick
  zone_none h = rw (p.is, spell_end a.u (cased e (rest m s a.next)) h)

  zone_byte : (a.u ≡ 256 → ⊥) → zone (cased e (rest m s c)) ≡ provided (eqb a.u 90 and is_empty (rest m s a.next)) Utc
  unfolding zone pick
  zone_byte h = rw (p.is, spell_byte a.u (cased e (rest m s a.next)) h, same_z, cased_empty)

  pub zone_z : a.u ≡ 90 → is_empty (rest m s a.next) ≡ true → Some Utc ≡ zone (cased e (rest m s c))
  unfolding pick ◌and◌
  zone_z h k = sym (zone_byte (omega arith) ∙ rw (h, k))

  pub zone_more : a.u ≡ 90 → is_empty (rest m s a.next) ≡ false → None ≡ zone (cased e (rest m s c))
  unfolding pick ◌and◌
  zone_more h k = sym (zone_byte (omega arith) ∙ rw (h, k))

  pub zone_other : (a.u ≡ 256 → ⊥) → (a.u ≡ 90 → ⊥) → None ≡ zone (cased e (rest m s c))
  unfolding pick ◌and◌
  zone_other h k = sym (zone_byte h ∙ rw (ne_eqb a.u 90 k))

pub ruleset zoning = (zone_none, zone_z, zone_more, zone_other, flag_yes, flag_no, rules)

-- ---- the ways of a reader

pub clock_found : (n : ℕ) (z : Zone) {utc : Bool} → utc ≡ is_utc z → is_hms (n / 10000 % 100) (n / 100 % 100) (n % 100) ≡ true →
    clock_by n z ≡ Some (time_of (n / 10000 % 100) (n / 100 % 100) (n % 100) utc)
unfolding clock_by pick
clock_found n z u e = rw (e, u)

-- what stands after the digits is no zone
pub clock_longer : (n : ℕ) (o : Option Zone) → o ≡ None → and_then o (clock_by n) ≡ None
unfolding and_then
clock_longer n o e = rw e

pub clock_missing : (n : ℕ) (z : Zone) → is_hms (n / 10000 % 100) (n / 100 % 100) (n % 100) ≡ false → clock_by n z ≡ None
unfolding clock_by pick
clock_missing n z e = rw e

module _ (x : Bool) {m : ℕ} {s : List ℕ} {c : ℕ} {w : Option Walk} (p : Walks (time_pattern (format_of x)) x m s c w) where
  followed : read_time (format_of x) (rest m s c) ≡ timed (walked x m s w)
  followed = time_along x (rest m s c) ∙ ap timed p.is

  pub time_lost : w ≡ None → read_time (format_of x) (rest m s c) ≡ None
  unfolding timed
  time_lost h = followed ∙ rw h

  -- what follows the digits is o, if it is a zone
  pub time_ended : {v : Walk} {o : Option Zone} → w ≡ Some v → o ≡ zone (cased x (rest m s v.next)) → read_time (format_of x) (rest m s c) ≡ and_then o (clock_by v.number)
  unfolding timed
  time_ended {v} h e = followed ∙ rw (h, e) (clock_zone v.number _)
