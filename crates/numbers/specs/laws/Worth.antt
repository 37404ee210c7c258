-- Laws of what specs/Worth.antt defines.
--     leading_zeros, trailing_zeros    zeros make no difference to the digits without them
--     front_value, back_value          zeros in front of digits are worth nothing, each one after them a factor of 10
--     leading_split, trailing_split    digits are their zeros and the digits without these
use Rattle.std.specs.Prelude.{◌≡◌, refl, Bool, true, false, List, [], ◌∷◌, ℕ, zero, suc, ◌+◌, ◌*◌, ◌^◌, eqb, length}
use Rattle.std.proofs.Common.{ap, ◌∙◌, zero-mul, arith, eqb-true}
use Rattle.std.proofs.Math.Nat.{pow-zero, pow-succ'}
use Rattle.octets.specs.Pick.{pick, ◌and◌}
use Rattle.octets.specs.Scan.{all_of}
use Rattle.octets.specs.laws.Scan.{all_append}
use Rattle.octets.specs.Append.{◌⊕◌}
use Rattle.octets.specs.laws.Append.{length_both}
use Rattle.octets.specs.Class.{is_digit}
use Rattle.octets.specs.Decimal.{value}
use Rattle.octets.specs.laws.Decimal.{value_append}
use Rattle.numbers.specs.Float.{no_leading, no_trailing, kept}
use Rattle.numbers.specs.Worth.{zeros}

pub zeros_digits : (k : ℕ) → all_of is_digit (zeros k) ≡ true
unfolding zeros all_of pick ◌and◌
zeros_digits zero = refl
zeros_digits (suc k) = zeros_digits k

pub zeros-length : (k : ℕ) → length (zeros k) ≡ k
unfolding zeros
zeros-length zero = refl
zeros-length (suc k) = ap suc (zeros-length k)

pub value-zeros : (k n : ℕ) → value n (zeros k) ≡ n * 10 ^ k
unfolding zeros value pick ◌and◌
value-zeros zero n = rw pow-zero (omega arith)
value-zeros (suc k) n = value-zeros k (n * 10 + 0) ∙ rw (pow-succ' 10 k) (omega arith)

pub leading_zeros : (k : ℕ) (s : List ℕ) → no_leading (zeros k ⊕ s) ≡ no_leading s
unfolding zeros no_leading ◌⊕◌ pick
leading_zeros zero s = refl
leading_zeros (suc k) s = leading_zeros k s

pub only_zeros : (k : ℕ) → no_trailing (zeros k) ≡ []
unfolding zeros no_trailing kept pick
only_zeros zero = refl
only_zeros (suc k) = rw (only_zeros k)

pub trailing_zeros : (s : List ℕ) (k : ℕ) → no_trailing (s ⊕ zeros k) ≡ no_trailing s
unfolding no_trailing ◌⊕◌
trailing_zeros [] k = only_zeros k
trailing_zeros (b ∷ s) k = rw (trailing_zeros s k)

-- ---- digits with zeros in front of them, and after them
pub front_length : (n : ℕ) (s : List ℕ) → length (zeros n ⊕ s) ≡ n + length s
front_length n s = rw (length_both (zeros n) s, zeros-length n)

pub front_value : (n : ℕ) (s : List ℕ) → value 0 (zeros n ⊕ s) ≡ value 0 s
front_value n s = rw (value_append (zeros n) s 0, value-zeros n 0, zero-mul)

pub front_digits : (n : ℕ) (s : List ℕ) → all_of is_digit s ≡ true → all_of is_digit (zeros n ⊕ s) ≡ true
front_digits n s h = all_append is_digit (zeros n) s (zeros_digits n) h

pub back_length : (s : List ℕ) (n : ℕ) → length (s ⊕ zeros n) ≡ length s + n
back_length s n = rw (length_both s (zeros n), zeros-length n)

pub back_value : (s t : List ℕ) (n : ℕ) → value (value 0 s) (t ⊕ zeros n) ≡ value 0 (s ⊕ t) * 10 ^ n
back_value s t n = rw (value_append t (zeros n) (value 0 s), value-zeros n (value (value 0 s) t), value_append s t 0)

pub back_digits : (s : List ℕ) (n : ℕ) → all_of is_digit s ≡ true → all_of is_digit (s ⊕ zeros n) ≡ true
back_digits s n h = all_append is_digit s (zeros n) h (zeros_digits n)

-- ---- digits are their zeros and the digits without these

pub leading_split : (s : List ℕ) → (k : ℕ) × (s ≡ zeros k ⊕ no_leading s)
unfolding zeros no_leading ◌⊕◌ pick
leading_split [] = (0, refl)
leading_split (b ∷ s) = go (eqb b 48) refl (leading_split s)
  where
    go : (t : Bool) → eqb b 48 ≡ t → (k : ℕ) × (s ≡ zeros k ⊕ no_leading s) → (k : ℕ) × (b ∷ s ≡ zeros k ⊕ pick t (no_leading s) (b ∷ s))
    go true e r = let z = eqb-true b 48 e in (suc r.0, cc (z, r.1))
    go false e r = (0, refl)

pub trailing_split : (s : List ℕ) → (k : ℕ) × (s ≡ no_trailing s ⊕ zeros k)
unfolding zeros no_trailing kept ◌⊕◌ pick
trailing_split [] = (0, refl)
trailing_split (b ∷ s) = go (no_trailing s) (trailing_split s)
  where
    last : (t : Bool) (k : ℕ) → eqb b 48 ≡ t → s ≡ zeros k → (j : ℕ) × (b ∷ s ≡ pick t [] (b ∷ []) ⊕ zeros j)
    last true k e r = let z = eqb-true b 48 e in (suc k, cc (z, r))
    last false k e r = (k, cc r)

    go : (t : List ℕ) → (k : ℕ) × (s ≡ t ⊕ zeros k) → (j : ℕ) × (b ∷ s ≡ kept b t ⊕ zeros j)
    go [] r = last (eqb b 48) r.0 refl r.1
    go (c ∷ t) r = (r.0, cc r.1)
