-- Digits: what each is worth, and two of them.
--     digit_is, digit_small    a digit is 48 and what it is worth, which is less than ten
--     two_of                   two digits of a number below a hundred
use Rattle.std.specs.Prelude.{◌≡◌, refl, Bool, true, false, List, [], ◌∷◌, ℕ, ◌+◌, ◌-◌, ◌*◌, ◌/◌, ◌%◌, ◌<◌, length, drop}
use Rattle.std.proofs.Common.{arith, length-drop, leb-true}
use Rattle.octets.specs.Pick.{pick}
use Rattle.octets.specs.laws.Pick.{and_both}
use Rattle.octets.specs.Class.{is_digit}
use Rattle.octets.specs.Words.{is_empty}
use Rattle.octets.specs.Decimal.{digit_of}
use Rattle.times.specs.Digits.{two_digits}

pub digit_is : (b : ℕ) → is_digit b ≡ true → b ≡ 48 + digit_of b
unfolding pick
digit_is b h = rw h (omega (arith, leb-true 48 b (and_both _ _ h).0))

pub digit_small : (b : ℕ) → digit_of b < 10
unfolding pick
digit_small b = go (is_digit b) refl
  where
    go : (t : Bool) → is_digit b ≡ t → pick t (b - 48) 0 < 10
    go true e = omega (arith, leb-true b 57 (and_both _ _ e).1)
    go false e = omega arith

pub two_of : (x y : ℕ) → x < 10 → y < 10 → two_digits (x * 10 + y) ≡ (48 + x) ∷ (48 + y) ∷ []
unfolding two_digits
two_of x y h k =
    let p : 48 + (x * 10 + y) / 10 ≡ 48 + x = omega arith in
    let q : 48 + (x * 10 + y) % 10 ≡ 48 + y = omega arith in
    rw (p, q)

pub drop_longer : (k : ℕ) (v : List ℕ) → k < length v → is_empty (drop k v) ≡ false
drop_longer k v h = go (drop k v) (omega (arith, length-drop k v))
  where
    go : (l : List ℕ) → 0 < length l → is_empty l ≡ false
    go [] q = absurd (omega arith)
    go (x ∷ l) q = refl
