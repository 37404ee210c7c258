-- The number that a FLOAT states: two FLOAT values are equal exactly when the numbers are.
-- A decimal states its sign and the quotient of its numerator, which is all its digits as one number, by 10 to the power of how many stand after the point.
--     SameNumber a b          a and b state the same number: their quotients are equal, multiplied crosswise, and their signs
--     normal_number           digits state the same number exactly when their normal forms are equal
--     normal_forms            two normal forms are equal exactly when they state the same number
--     float_same_number       two texts are read as the same FLOAT exactly when they spell the same number
--     float_keeps_number      what is read is the number that is spelled
use Rattle.std.specs.Prelude.{◌≡◌, refl, Bool, true, false, not, List, [], ◌↔◌, ℕ, ◌+◌, ◌*◌, ◌^◌, ltb, length, Some}
use Rattle.std.proofs.Common.{sym, ap, ◌∙◌, zero-mul, arith, pow-add, ltb-true, ltb-false}
use Rattle.octets.specs.Pick.{◌and◌}
use Rattle.octets.specs.laws.Pick.{and_both}
use Rattle.octets.specs.Scan.{all_of}
use Rattle.octets.specs.Append.{◌⊕◌}
use Rattle.octets.specs.Class.{is_digit}
use Rattle.octets.specs.laws.Words.{empty_is}
use Rattle.octets.specs.Decimal.{value}
use Rattle.octets.specs.laws.Decimal.{value_append, digits_same}
use Rattle.octets.specs.Reading.{and_then}
use Rattle.calendar.specs.Calendar.{Decimal}
use Rattle.numbers.specs.Float.{decimal, spelled, no_leading, no_trailing, normal, read_float, is_zero, is_normal}
use Rattle.numbers.specs.Worth.{zeros}
use Rattle.numbers.specs.laws.Worth.{front_length, front_value, front_digits, back_length, back_value, back_digits, leading_zeros, trailing_zeros, leading_split, trailing_split}
use Rattle.numbers.specs.laws.FloatLaws.{Digits, normal_digits, normal_fixed, spelled_digits, float_accepted}

abbrev pub numerator : Decimal → ℕ
numerator d = value 0 (d.before ⊕ d.after)

-- zero is not negative
abbrev pub is_negative : Decimal → Bool
is_negative d = ltb 0 (numerator d) and d.minus

pub record SameNumber (a b : Decimal) : Type 0 where
  pub magnitude : numerator a * 10 ^ length b.after ≡ numerator b * 10 ^ length a.after
  pub sign : is_negative a ≡ is_negative b

-- ---- digits that are worth the same have the same normal form

-- digits before the point: as many, by zeros in front
before_same : (p q : List ℕ) → all_of is_digit p ≡ true → all_of is_digit q ≡ true → value 0 p ≡ value 0 q → no_leading p ≡ no_leading q
before_same p q h k e =
    let m = length p in
    let n = length q in
    let l : length (zeros n ⊕ p) ≡ length (zeros m ⊕ q) = rw (front_length n p, front_length m q) (omega arith) in
    let v : value 0 (zeros n ⊕ p) ≡ value 0 (zeros m ⊕ q) = front_value n p ∙ e ∙ sym (front_value m q) in
    let r = digits_same (zeros n ⊕ p) (zeros m ⊕ q) 0 0 l (front_digits n p h) (front_digits m q k) v in
    sym (leading_zeros n p) ∙ ap no_leading r.1 ∙ leading_zeros m q

-- digits after the point: as many, by zeros after them
magnitude_same : (a b : Decimal) → Digits a → Digits b → numerator a * 10 ^ length b.after ≡ numerator b * 10 ^ length a.after →
    (no_leading a.before ≡ no_leading b.before) × (no_trailing a.after ≡ no_trailing b.after)
magnitude_same a b h k e =
    let m = length a.after in
    let n = length b.after in
    let s = a.after ⊕ zeros n in
    let t = b.after ⊕ zeros m in
    let l : length s ≡ length t = rw (back_length a.after n, back_length b.after m) (omega arith) in
    let v : value (value 0 a.before) s ≡ value (value 0 b.before) t = back_value a.before a.after n ∙ e ∙ sym (back_value b.before b.after m) in
    let r = digits_same s t (value 0 a.before) (value 0 b.before) l (back_digits a.after n h.after_digits) (back_digits b.after m k.after_digits) v in
    let before = before_same a.before b.before h.before_digits k.before_digits r.0 in
    (before, sym (trailing_zeros a.after n) ∙ ap no_trailing r.1 ∙ trailing_zeros b.after m)

-- ---- a normal form is worth as much

-- how many zeros trail, and what the numerator is without them
record Shorter (a : Decimal) : Type 0 where
  dropped : ℕ
  places : length a.after ≡ length (no_trailing a.after) + dropped
  worth : numerator a ≡ numerator (normal a) * 10 ^ dropped

shorter : (a : Decimal) → Shorter a
shorter a =
    let p = leading_split a.before in
    let q = trailing_split a.after in
    let l = no_leading a.before in
    let t = no_trailing a.after in
    let v : value 0 a.before ≡ value 0 l = ap (value 0) p.1 ∙ front_value p.0 l in
    record {
      dropped = q.0;
      places = ap length q.1 ∙ back_length t q.0;
      worth =
          value_append a.before a.after 0
          ∙ ap (λ (n : ℕ). value n a.after) v
          ∙ ap (value (value 0 l)) q.1
          ∙ back_value l t q.0;
    }

-- a normal form is zero exactly when the number is
zero_normal : (a : Decimal) → Digits a → numerator a ≡ 0 → is_zero (normal a) ≡ true
unfolding no_leading no_trailing value ◌⊕◌ all_of ◌and◌
zero_normal a h z =
    let r = magnitude_same a (decimal false [] []) h (record { before_digits = refl; after_digits = refl }) (rw z (sym (zero-mul (10 ^ length a.after)))) in
    rw (r.0, r.1)

zero_number : (a : Decimal) → is_zero (normal a) ≡ true → numerator a ≡ 0
unfolding value ◌⊕◌
zero_number a h =
    let p = and_both _ _ h in
    (shorter a).worth ∙ rw (empty_is (no_leading a.before) p.0, empty_is (no_trailing a.after) p.1) (zero-mul (10 ^ (shorter a).dropped))

-- the sign of the normal form is that of the number
normal_sign : (a : Decimal) → Digits a → (normal a).minus ≡ is_negative a
normal_sign a h = ap (λ (t : Bool). t and a.minus) (go (ltb 0 (numerator a)) (is_zero (normal a)) refl refl)
  where
    go : (t z : Bool) → ltb 0 (numerator a) ≡ t → is_zero (normal a) ≡ z → not z ≡ t
    go true true e f = let n = ltb-true 0 (numerator a) e in absurd (omega (arith, zero_number a f))
    go true false e f = refl
    go false true e f = refl
    go false false e f = let n = ltb-false 0 (numerator a) e in sym (sym f ∙ zero_normal a h (omega arith))

-- ---- the theorem

same_normal : (a b : Decimal) → Digits a → Digits b → SameNumber a b → normal a ≡ normal b
same_normal a b h k e =
    let r = magnitude_same a b h k e.magnitude in
    let s : (normal a).minus ≡ (normal b).minus = normal_sign a h ∙ e.sign ∙ sym (normal_sign b k) in
    cc (r.0, r.1, s)

crosswise : (n l i j : ℕ) → n * 10 ^ i * 10 ^ (l + j) ≡ n * 10 ^ j * 10 ^ (l + i)
crosswise n l i j = rw (pow-add 10 l j, pow-add 10 l i) (omega arith)

normal_same : (a b : Decimal) → Digits a → Digits b → normal a ≡ normal b → SameNumber a b
normal_same a b h k e =
    let p = shorter a in
    let q = shorter b in
    let n : numerator (normal a) ≡ numerator (normal b) = ap numerator e in
    let l : length (no_trailing a.after) ≡ length (no_trailing b.after) = ap (λ (d : Decimal). length d.after) e in
    record {
      magnitude = rw (p.worth, q.worth, p.places, q.places, n, l) (crosswise (numerator (normal b)) (length (no_trailing b.after)) p.dropped q.dropped);
      sign = sym (normal_sign a h) ∙ ap (λ (d : Decimal). d.minus) e ∙ normal_sign b k;
    }

-- digits state the same number exactly when their normal forms are equal
pub normal_number : (a b : Decimal) → Digits a → Digits b → (SameNumber a b ↔ (normal a ≡ normal b))
normal_number a b h k = (same_normal a b h k, normal_same a b h k)

-- two normal forms are equal exactly when the numbers are
pub normal_forms : (a b : Decimal) → is_normal a ≡ true → is_normal b ≡ true → (SameNumber a b ↔ (a ≡ b))
normal_forms a b h k =
    let f = normal_number a b (normal_digits a h) (normal_digits b k) in
    let p = normal_fixed a h in
    let q = normal_fixed b k in
    (λ s. sym p ∙ f.0 s ∙ q, λ e. f.1 (p ∙ e ∙ sym q))

-- what is read is the number that is spelled
pub float_keeps_number : (s : List ℕ) (a d : Decimal) → spelled s ≡ Some a → read_float s ≡ Some d → SameNumber a d
unfolding and_then
float_keeps_number s a d e h =
    let r : Some (normal a) ≡ Some d = rw e at h in
    let q : normal a ≡ d = cc r in
    let n = float_accepted s d h in
    normal_same a d (spelled_digits s a e) (normal_digits d n) (q ∙ sym (normal_fixed d n))

-- two texts are read as the same FLOAT exactly when they spell the same number
pub float_same_number : (s t : List ℕ) (a b : Decimal) → spelled s ≡ Some a → spelled t ≡ Some b → (SameNumber a b ↔ (read_float s ≡ read_float t))
unfolding and_then
float_same_number s t a b e f =
    let g = normal_number a b (spelled_digits s a e) (spelled_digits t b f) in
    rw (e, f) (λ n. ap Some (g.0 n), λ h. g.1 (cc))
