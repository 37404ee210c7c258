-- Laws of what specs/Masks.antt defines.
--     has_past     a mask of k bits has no number of k or more;   has_none: 0 is the empty set
--     has_insert   one number more in the set
--     one_shifted, one_shifted_pos    1 shifted within 64 bits, and that it is not 0
use Rattle.std.specs.Prelude.{◌≡◌, refl, Bool, true, false, cond, ℕ, zero, suc, ◌*◌, ◌/◌, ◌%◌, ◌^◌, ◌<◌, ◌≤◌, eqb}
use Rattle.std.proofs.Common.{◌∙◌, one-mul, lt_of_lt_of_le, div-one, arith, lit<, pow_mono, pow_pos, shl_exact}
use Rattle.std.proofs.Math.Nat.{div-eq_of_lt, zero-div, pow-succ', div-div-eq-div-mul}
use Rattle.std.specs.Int.Bits.{bit_or}
use Rattle.std.proofs.lemmas.Nat.{or_shr, or_mod}
use Rattle.std.proofs.Math.Dec.{eqb-zero-suc, eqb-suc-zero, eqb-suc-suc}
use Rattle.bits.specs.Masks.{has}

pub has_past : (k m i : ℕ) → m < 2 ^ k → k ≤ i → has m i ≡ false
has_past k m i h l = rw (div-eq_of_lt {n = m} {m = 2 ^ i} (lt_of_lt_of_le h (pow_mono l)))

pub has_none : (i : ℕ) → has 0 i ≡ false
has_none i = has_past 0 0 i (lit< tt) (omega arith)

pub one_shifted : (k : ℕ) → k < 64 → 1 * 2 ^ k % 2 ^ 64 ≡ 2 ^ k
one_shifted k h = shl_exact {a = 1} 1 k 64 (lit< tt) (omega arith) ∙ one-mul (2 ^ k)

pub one_shifted_pos : (k : ℕ) → k < 64 → 1 ≤ 1 * 2 ^ k % 2 ^ 64
one_shifted_pos k h = rw (one_shifted k h) (pow_pos k)

-- ---- one number more: `mask | (1 << i)`

abbrev one : Bool → ℕ
one true = 1
one false = 0

power_bit : (i j : ℕ) → 2 ^ i / 2 ^ j % 2 ≡ one (eqb i j)
power_bit zero zero = refl
power_bit zero (suc j) = rw (pow-succ', ← (div-div-eq-div-mul 1 2 (2 ^ j)), zero-div, eqb-zero-suc)
power_bit (suc i) zero = rw (eqb-suc-zero, div-one, pow-succ') (omega arith)
power_bit (suc i) (suc j) = rw (eqb-suc-suc, pow-succ' 2 i, pow-succ' 2 j, ← (div-div-eq-div-mul (2 * 2 ^ i) 2 (2 ^ j)), twice_half) (power_bit i j)
  where
    twice_half : 2 * 2 ^ i / 2 ≡ 2 ^ i
    twice_half = omega arith

or_bit : (x : ℕ) (b : Bool) → x < 2 → eqb (bit_or x (one b)) 1 ≡ cond b true (eqb x 1)
or_bit zero true h = refl
or_bit zero false h = refl
or_bit (suc zero) true h = refl
or_bit (suc zero) false h = refl
or_bit (suc (suc x)) b h = absurd (omega arith)

pub has_insert : (m i j : ℕ) → i < 32 → has (bit_or m (1 * 2 ^ i % 2 ^ 32)) j ≡ cond (eqb i j) true (has m j)
has_insert m i j h =
    rw (shl_exact {a = 1} 1 i 32 (lit< tt) (omega arith), one-mul, or_shr m (2 ^ i) j, or_mod (m / 2 ^ j) (2 ^ i / 2 ^ j) 1, power_bit)
    (or_bit (m / 2 ^ j % 2) (eqb i j) (omega arith))
