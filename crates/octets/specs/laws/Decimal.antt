-- Laws of what specs/Decimal.antt defines.
--     value_append   what digits are worth after others;   value_grows: and no less
--     digits_value, digits_all, digits_some, digits_short, digits_number    a number is read back from its digits
--     digits_same    as many digits that are worth the same are the same
use Rattle.std.specs.Prelude.{◌≡◌, refl, Bool, true, false, List, [], ◌∷◌, ℕ, zero, suc, ◌+◌, ◌-◌, ◌*◌, ◌/◌, ◌%◌, ◌^◌, ◌≤◌, ◌<◌, ltb, length}
use Rattle.std.proofs.Common.{◌∙◌, arith, length-append, lt-ltb, ltb-true, le-leb}
use Rattle.std.proofs.Math.Nat.{pow-succ'}
use Rattle.octets.specs.Pick.{pick, ◌and◌}
use Rattle.octets.specs.laws.Pick.{within_yes}
use Rattle.octets.specs.Scan.{all_of}
use Rattle.octets.specs.laws.Scan.{all_append, all_split}
use Rattle.octets.specs.Append.{◌⊕◌}
use Rattle.octets.specs.Class.{is_digit}
use Rattle.octets.specs.laws.Class.{digit_range}
use Rattle.octets.specs.Decimal.{digit_of, value, is_number, digits}

-- ---- the digits of a number are read back

pub value_append : (s t : List ℕ) (n : ℕ) → value n (s ⊕ t) ≡ value (value n s) t
unfolding value ◌⊕◌
value_append [] t n = refl
value_append (b ∷ s) t n = value_append s t (n * 10 + digit_of b)

-- digits never make a number less
pub value_grows : (s : List ℕ) (n : ℕ) → n ≤ value n s
unfolding value
value_grows [] n = omega arith
value_grows (b ∷ s) n = omega (arith, value_grows s (n * 10 + digit_of b))

pub is_digit_lem : (x : ℕ) → x < 10 → is_digit (48 + x) ≡ true
is_digit_lem x h = within_yes 48 57 (48 + x) (le-leb 48 (48 + x) (omega arith)) (le-leb (48 + x) 57 (omega arith))

pub digit_of_lem : (x : ℕ) → x < 10 → digit_of (48 + x) ≡ x
unfolding pick
digit_of_lem x h = rw (is_digit_lem x h) (omega arith)

shorter : (f n : ℕ) → n < 10 ^ suc (suc f) → n / 10 < 10 ^ suc f
shorter f n h = let g : n < 10 * 10 ^ suc f = rw pow-succ' at h in omega arith

pub digits_value : (f n : ℕ) → n < 10 ^ suc f → value 0 (digits f n) ≡ n
unfolding digits value ◌⊕◌ pick
digits_value zero n h = rw (digit_of_lem (n % 10) (omega arith)) (omega arith)
digits_value (suc f) n h = go (ltb n 10) refl (digits_value f (n / 10) (shorter f n h))
  where
    go : (t : Bool) → ltb n 10 ≡ t → value 0 (digits f (n / 10)) ≡ n / 10 → value 0 (pick t ((48 + n) ∷ []) (digits f (n / 10) ⊕ (48 + n % 10) ∷ [])) ≡ n
    go true e ih = rw (digit_of_lem n (ltb-true n 10 e)) (omega arith)
    go false e ih = value_append (digits f (n / 10)) ((48 + n % 10) ∷ []) 0 ∙ rw (ih, digit_of_lem (n % 10) (omega arith)) (omega arith)

pub digits_all : (f n : ℕ) → all_of is_digit (digits f n) ≡ true
unfolding digits all_of ◌⊕◌ pick
digits_all zero n = rw (is_digit_lem (n % 10) (omega arith))
digits_all (suc f) n = go (ltb n 10) refl (digits_all f (n / 10))
  where
    go : (t : Bool) → ltb n 10 ≡ t → all_of is_digit (digits f (n / 10)) ≡ true →
        all_of is_digit (pick t ((48 + n) ∷ []) (digits f (n / 10) ⊕ (48 + n % 10) ∷ [])) ≡ true
    go true e ih = rw (is_digit_lem n (ltb-true n 10 e))
    go false e ih = all_append is_digit (digits f (n / 10)) ((48 + n % 10) ∷ []) ih (rw (is_digit_lem (n % 10) (omega arith)))

pub digits_some : (f n : ℕ) → 0 < length (digits f n)
unfolding digits ◌⊕◌ pick
digits_some zero n = omega arith
digits_some (suc f) n = go (ltb n 10)
  where
    go : (t : Bool) → 0 < length (pick t ((48 + n) ∷ []) (digits f (n / 10) ⊕ (48 + n % 10) ∷ []))
    go true = omega arith
    go false = simp length-append (omega arith)

-- a number below a power of ten has no more digits
pub digits_short : (f d n : ℕ) → 0 < d → n < 10 ^ d → length (digits f n) ≤ d
unfolding digits ◌⊕◌ pick
digits_short f zero n p h = absurd (omega arith)
digits_short zero (suc k) n p h = omega arith
digits_short (suc f) (suc zero) n p h = rw (lt-ltb n 10 h) (omega arith)
digits_short (suc f) (suc (suc k)) n p h = go (ltb n 10) (digits_short f (suc k) (n / 10) (omega arith) (shorter k n h))
  where
    go : (t : Bool) → length (digits f (n / 10)) ≤ suc k → length (pick t ((48 + n) ∷ []) (digits f (n / 10) ⊕ (48 + n % 10) ∷ [])) ≤ suc (suc k)
    go true ih = omega arith
    go false ih = simp length-append (omega arith)

-- a number that is not too much is a number by its digits
pub digits_number : (f n most : ℕ) → n < 10 ^ suc f → n ≤ most → is_number most (digits f n) ≡ true
unfolding ◌and◌
digits_number f n most h l = rw (lt-ltb 0 (length (digits f n)) (digits_some f n), digits_all, digits_value f n h, le-leb n most l)

-- ---- as many digits that are worth the same are the same

digit_same : (b c x y : ℕ) → is_digit b ≡ true → is_digit c ≡ true → x * 10 + digit_of b ≡ y * 10 + digit_of c → (x ≡ y) × (b ≡ c)
unfolding pick
digit_same b c x y h k e =
    let p = digit_range b h in
    let q = digit_range c k in
    let f : x * 10 + (b - 48) ≡ y * 10 + (c - 48) = rw (h, k) at e in
    (omega arith, omega arith)

pub digits_same : (s t : List ℕ) (x y : ℕ) → length s ≡ length t → all_of is_digit s ≡ true → all_of is_digit t ≡ true → value x s ≡ value y t → (x ≡ y) × (s ≡ t)
unfolding value
digits_same [] [] x y l h k e = (e, refl)
digits_same [] (c ∷ t) x y l h k e = absurd (omega arith)
digits_same (b ∷ s) [] x y l h k e = absurd (omega arith)
digits_same (b ∷ s) (c ∷ t) x y l h k e =
    let p = all_split is_digit b s h in
    let q = all_split is_digit c t k in
    let r = digits_same s t (x * 10 + digit_of b) (y * 10 + digit_of c) (omega arith) p.1 q.1 e in
    let u = digit_same b c x y p.0 q.0 r.0 in
    (u.0, cc (u.1, r.1))
