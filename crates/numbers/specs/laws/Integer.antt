-- Laws of what specs/Integer.antt defines.
--     whole_minus, whole_rest, whole_all    the sign and the digits of what it writes, and a test that digits and the minus pass
use Rattle.std.specs.Prelude.{◌≡◌, refl, Bool, true, false, List, ℕ, ◌^◌, ◌≤◌, ◌<◌, ltb, leb, Some}
use Rattle.std.proofs.Common.{arith, lt-ltb, leb-true, ltb-false, le-leb}
use Rattle.octets.specs.Pick.{pick, ◌and◌, within}
use Rattle.octets.specs.laws.Pick.{within_yes, and_both}
use Rattle.octets.specs.Scan.{all_of}
use Rattle.octets.specs.laws.Scan.{all_weaker}
use Rattle.octets.specs.Class.{is_digit, is_visible}
use Rattle.octets.specs.laws.Class.{digit_visible}
use Rattle.octets.specs.Decimal.{value, is_number, digits}
use Rattle.octets.specs.laws.Decimal.{digits_value, digits_all, digits_some, digits_number}
use Rattle.octets.specs.Reading.{provided}
use Rattle.octets.specs.laws.Reading.{provided-some}
use Rattle.calendar.specs.Calendar.{Whole}
use Rattle.numbers.specs.Sign.{has_minus, after_sign, leads_in_digit}
use Rattle.numbers.specs.laws.Sign.{digits_lead, signed_minus, signed_rest, signed_all}
use Rattle.numbers.specs.Integer.{most, integer_of, write_whole, read_integer, write_integer, is_integer}

lead : (n : ℕ) → leads_in_digit (digits 9 n) ≡ true
lead n = digits_lead (digits 9 n) (digits_some 9 n) (digits_all 9 n)

-- the parts of a written number, for whoever reads one
pub whole_minus : (w : Whole) → has_minus (write_whole w) ≡ w.negative
whole_minus w = signed_minus w.negative (digits 9 w.magnitude) (lead w.magnitude)

pub whole_rest : (w : Whole) → after_sign (write_whole w) ≡ digits 9 w.magnitude
whole_rest w = signed_rest w.negative (digits 9 w.magnitude) (lead w.magnitude)

pub whole_all : (p : ℕ → Bool) → ((b : ℕ) → is_digit b ≡ true → p b ≡ true) → p 45 ≡ true → (w : Whole) → all_of p (write_whole w) ≡ true
whole_all p f e w = signed_all p w.negative (digits 9 w.magnitude) e (all_weaker is_digit p f (digits 9 w.magnitude) (digits_all 9 w.magnitude))

pub integer_read_back : (w : Whole) → is_integer w ≡ true → read_integer (write_integer w) ≡ Some w
unfolding pick ◌and◌
integer_read_back w h = rw (whole_minus w, whole_rest w) (go w.negative w.magnitude h)
  where
    go : (m : Bool) (n : ℕ) → pick m (within 1 2147483648 n) (leb n 2147483647) ≡ true →
        provided (is_number (most m) (digits 9 n)) (integer_of m (value 0 (digits 9 n))) ≡ Some (record { negative = m; magnitude = n })
    go true n k =
        let p = and_both (leb 1 n) (leb n 2147483648) k in
        let l : n ≤ 2147483648 = leb-true n 2147483648 p.1 in
        let g : n < 10 ^ 10 = omega arith in
        rw (digits_number 9 n 2147483648 g l, digits_value 9 n g, lt-ltb 0 n (leb-true 1 n p.0))
    go false n k =
        let l : n ≤ 2147483647 = leb-true n 2147483647 k in
        let g : n < 10 ^ 10 = omega arith in
        rw (digits_number 9 n 2147483647 g l, digits_value 9 n g)

whole_integer : (m : Bool) (n : ℕ) → n ≤ most m → is_integer (integer_of m n) ≡ true
unfolding pick ◌and◌
whole_integer true n l = go (ltb 0 n) refl
  where
    go : (t : Bool) → ltb 0 n ≡ t → pick t (within 1 2147483648 n) (leb n 2147483647) ≡ true
    go true e = within_yes 1 2147483648 n e (le-leb n 2147483648 l)
    go false e = let z = ltb-false 0 n e in le-leb n 2147483647 (omega arith)
whole_integer false n l = le-leb n 2147483647 l

pub integer_accepted : (s : List ℕ) (w : Whole) → read_integer s ≡ Some w → is_integer w ≡ true
integer_accepted s w h =
    let p = provided-some (is_number (most (has_minus s)) (after_sign s)) (integer_of (has_minus s) (value 0 (after_sign s))) w h in
    let q = and_both _ _ (and_both _ _ p.0).1 in
    rw (← p.1) (whole_integer (has_minus s) (value 0 (after_sign s)) (leb-true _ _ q.1))

pub integer_visible : (w : Whole) → all_of is_visible (write_integer w) ≡ true
unfolding ◌and◌
integer_visible w = whole_all is_visible digit_visible refl w
