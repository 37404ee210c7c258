-- Laws of what specs/Digits.antt defines.
--     worth_is      the digits that are kept, up to the cap, where the others are zeros
--     worth_join    one list after another
--     Walking       the invariant of the loop over digits;   `search walking`
use Rattle.std.specs.Prelude.{◌≡◌, Bool, List, [], ◌∷◌, ℕ, zero, suc, ◌+◌, ◌-◌, ◌*◌, ◌/◌, ◌≤◌, ◌<◌, min, eqb, length, get_or, take, drop}
use Rattle.std.proofs.Math.Path.{refl, sym}
use Rattle.std.proofs.Common.{ap, ◌∙◌, rules}
use Rattle.std.proofs.Math.Bool.{true, false}
use native.Mathlib.Omega.{arith}
use Rattle.std.proofs.Math.Decide.{dec_le}
use borrow.Author.Tests.{eq-eqb, ne_eqb, eqb-true, eqb-false, le-leb, lt-leb}
use Rattle.octets.specs.Pick.{pick, ◌and◌}
use Rattle.octets.specs.Scan.{all_of}
use Rattle.octets.specs.Append.{◌⊕◌}
use Rattle.octets.specs.Decimal.{digit_of, value}
use Rattle.octets.specs.laws.Decimal.{value_grows}
use Rattle.json_text.specs.Bytes.{digit_zero}
use Rattle.source.specs.Source.{rest}
use Rattle.source.specs.laws.Facts.{rest_byte, rest_past, plain_byte}
use Rattle.read_jcal_value.specs.Digits.{next_worth, worth_of, DigitWorth, Worth}

-- ---- one digit

min_far : (c d : ℕ) → min c (c * 10 + d) ≡ c
min_far c d = omega arith

min_most : (c n : ℕ) → min c n ≤ c
min_most c n = omega arith

module _ (u : ℕ) where
  pub digit_low : u < 48 → DigitWorth u 0
  unfolding pick ◌and◌
  digit_low h = record { is = rw (lt-leb 48 u h); small = omega arith }

  pub digit_high : 57 < u → DigitWorth u 0
  unfolding pick ◌and◌
  digit_high h = record { is = rw (le-leb 48 u (omega arith), lt-leb u 57 h); small = omega arith }

  pub digit_in : 48 ≤ u → u ≤ 57 → DigitWorth u (u - 48)
  unfolding pick ◌and◌
  digit_in l h = record { is = rw (le-leb 48 u l, le-leb u 57 h); small = omega arith }

pub ruleset digiting = (digit_low, digit_high, digit_in, rules)

pub grown_some : (cap v : ℕ) {u d r : ℕ} → DigitWorth u d → r ≡ min cap (v * 10 + d) → r ≡ min cap (v * 10 + digit_of u)
grown_some cap v e h = rw (← e.is) h

pub grown_far : (cap v d : ℕ) → cap / 10 < v → cap ≡ min cap (v * 10 + d)
grown_far cap v d h = let k : cap < v * 10 = omega arith in omega arith

module _ (cap k v b : ℕ) where
  pub next_zero : k ≡ 0 → b ≡ digit_zero → v ≡ next_worth cap k v b
  unfolding next_worth pick
  next_zero h e = rw (eq-eqb k 0 h, eq-eqb b digit_zero e)

  pub next_left : k ≡ 0 → (b ≡ digit_zero → ⊥) → cap ≡ next_worth cap k v b
  unfolding next_worth pick
  next_left h e = rw (eq-eqb k 0 h, ne_eqb b digit_zero e)

  pub next_kept : {r : ℕ} → (k ≡ 0 → ⊥) → r ≡ min cap (v * 10 + digit_of b) → r ≡ next_worth cap k v b
  unfolding next_worth pick
  next_kept h e = e ∙ sym (rw (ne_eqb k 0 h))

  pub next_most : v ≤ cap → next_worth cap k v b ≤ cap
  unfolding next_worth pick
  next_most h = go (eqb k 0) (eqb b digit_zero)
    where
      go : (x y : Bool) → pick x (pick y v cap) (min cap (v * 10 + digit_of b)) ≤ cap
      go true true = h
      go true false = omega arith
      go false y = min_most cap (v * 10 + digit_of b)

pub ruleset growing = (grown_some, grown_far, rules)

pub ruleset nexting = (next_zero, next_left, next_kept, rules)

next_far : (cap k b : ℕ) → next_worth cap k cap b ≡ cap
unfolding next_worth pick
next_far cap k b = go (eqb k 0) (eqb b digit_zero)
  where
    go : (x y : Bool) → pick x (pick y cap cap) (min cap (cap * 10 + digit_of b)) ≡ cap
    go true true = refl
    go true false = refl
    go false y = min_far cap (digit_of b)

-- ---- all of them

worth_far : (cap : ℕ) (s : List ℕ) (k : ℕ) → worth_of cap s k cap ≡ cap
unfolding worth_of
worth_far cap [] k = refl
worth_far cap (b ∷ s) k = rw (next_far cap k b) (worth_far cap s (k - 1))

pub worth_join : (cap : ℕ) (s t : List ℕ) (k v : ℕ) → worth_of cap (s ⊕ t) k v ≡ worth_of cap t (k - length s) (worth_of cap s k v)
unfolding worth_of ◌⊕◌
worth_join cap [] t k v = let z : k - 0 ≡ k = omega arith in rw z
worth_join cap (b ∷ s) t k v =
    let z : k - 1 - length s ≡ k - suc (length s) = omega arith in
    worth_join cap s t (k - 1) (next_worth cap k v b) ∙ ap (λ (n : ℕ). worth_of cap t n (worth_of cap s (k - 1) (next_worth cap k v b))) z

-- a cap before digits is the cap after them
value_capped : (cap w : ℕ) (t : List ℕ) → min cap (value (min cap w) t) ≡ min cap (value w t)
value_capped cap w t = go (dec_le w cap)
  where
    go : Dec (w ≤ cap) → min cap (value (min cap w) t) ≡ min cap (value w t)
    go (yes h) = let k : min cap w ≡ w = omega arith in rw k
    go (no h) =
        let k : min cap w ≡ cap = omega arith in
        let a = value_grows t cap in
        let b = value_grows t w in
        let c : min cap (value cap t) ≡ cap = omega (arith, a) in
        let d : min cap (value w t) ≡ cap = omega (arith, b) in
        rw k (c ∙ sym d)

abbrev is_zero : ℕ → Bool
is_zero b = eqb b digit_zero

pub worth_is : (cap : ℕ) (s : List ℕ) (k v : ℕ) → v ≤ cap → worth_of cap s k v ≡ pick (all_of (λ b. eqb b digit_zero) (drop k s)) (min cap (value v (take k s))) cap
unfolding worth_of all_of value pick
worth_is cap [] zero v h = omega arith
worth_is cap [] (suc k) v h = omega arith
worth_is cap (b ∷ s) zero v h = go (eqb b digit_zero) refl (worth_is cap s zero v h)
  where
    go : (t : Bool) → eqb b digit_zero ≡ t → worth_of cap s zero v ≡ pick (all_of is_zero s) (min cap v) cap →
        worth_of cap s (0 - 1) (next_worth cap 0 v b) ≡ pick (pick t (all_of is_zero s) false) (min cap v) cap
    go true e ih = rw (← (next_zero cap 0 v b refl (eqb-true b digit_zero e))) ih
    go false e ih = rw (← (next_left cap 0 v b refl (eqb-false b digit_zero e))) (worth_far cap s 0)
worth_is cap (b ∷ s) (suc k) v h =
    let z : suc k - 1 ≡ k = omega arith in
    rw (z, ← (next_kept cap (suc k) v b {r = min cap (v * 10 + digit_of b)} (λ e. omega arith) refl))
    (worth_is cap s k (min cap (v * 10 + digit_of b)) (min_most cap (v * 10 + digit_of b))
    ∙ ap (λ (n : ℕ). pick (all_of is_zero (drop k s)) n cap) (value_capped cap (v * 10 + digit_of b) (take k s)))

-- ---- the loop over digits

pub record Walking (cap : ℕ) (s : List ℕ) (from keep v i k w : ℕ) : Type 0 where
  pub left : worth_of cap (rest 0 s from) keep v ≡ worth_of cap (rest 0 s i) k w
  pub low : w ≤ cap

pub walking_start : (cap : ℕ) (s : List ℕ) (from keep v : ℕ) → v ≤ cap → Walking cap s from keep v from keep v
walking_start cap s from keep v h = record { left = refl; low = h }

module _ {cap : ℕ} {s : List ℕ} {from keep v i k w : ℕ} (t : Walking cap s from keep v i k w) where
  pub walking_more : {u n m : ℕ} → i < length s → (u ≡ get_or s i 0) × (u < 256) → n ≡ next_worth cap k w u → m ≡ k - 1 → Walking cap s from keep v (i + 1) m n
  unfolding worth_of
  walking_more {u} {n} {m} h e q d = record {
    left = t.left ∙ rw (rest_byte (plain_byte s i u h e.0 e.1) (λ z. omega (arith, e.1)), d, q);
    low = rw q (next_most cap k w u t.low);
  }

  pub walking_end : length s ≤ i → Worth cap (rest 0 s from) keep v w
  unfolding worth_of
  walking_end h = record { is = sym (t.left ∙ rw (rest_past 0 s i refl h)); low = t.low }

pub ruleset walking = (walking_start, walking_more, walking_end, rules)
