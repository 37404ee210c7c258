-- Numbers of rule parts are read back, and what is read is in its range.
--     counting_read_back, unsigned_read_back, signed_read_back
--     counting_accepted, unsigned_accepted, signed_accepted
--     whole_characters   a written number is digits, with a minus before them if it is negative
use Rattle.std.specs.Prelude.{◌≡◌, refl, Bool, true, false, List, ℕ, ◌^◌, ◌≤◌, ◌<◌, eqb, leb, ltb, length, Some}
use Rattle.std.proofs.Common.{arith, le-leb, leb-true, ltb-true}
use Rattle.octets.specs.Pick.{pick, ◌and◌, ◌or◌, within}
use Rattle.octets.specs.laws.Pick.{and_yes, or_left, or_right, and_both, within_range}
use Rattle.octets.specs.Scan.{all_of}
use Rattle.octets.specs.Class.{is_digit}
use Rattle.octets.specs.Decimal.{value, is_number, digits}
use Rattle.octets.specs.laws.Decimal.{digits_value, digits_number, digits_short}
use Rattle.octets.specs.laws.Reading.{provided-some}
use Rattle.calendar.specs.Calendar.{Whole}
use Rattle.numbers.specs.Sign.{has_minus, after_sign}
use Rattle.numbers.specs.Integer.{write_whole}
use Rattle.numbers.specs.laws.Integer.{whole_minus, whole_rest, whole_all}
use Rattle.recur.specs.Item.{whole_number, is_numeral, is_short, read_counting, read_unsigned, read_signed}

-- ---- a number's digits

numeral : (lo hi n : ℕ) → hi ≤ 2147483647 → within lo hi n ≡ true → is_numeral lo hi (digits 9 n) ≡ true
numeral lo hi n b h =
    let l : lo ≤ n = (within_range lo hi n h).0 in
    let g : n ≤ hi = (within_range lo hi n h).1 in
    and_yes (is_number hi (digits 9 n)) (leb lo (value 0 (digits 9 n))) (digits_number 9 n hi (omega arith) g) (rw (digits_value 9 n (omega arith)) (le-leb lo n l))

numeral_within : (lo hi : ℕ) (s : List ℕ) → is_numeral lo hi s ≡ true → within lo hi (value 0 s) ≡ true
numeral_within lo hi s h =
    let p : is_number hi s ≡ true = (and_both (is_number hi s) (leb lo (value 0 s)) h).0 in
    and_yes (leb lo (value 0 s)) (leb (value 0 s) hi)
    (and_both (is_number hi s) (leb lo (value 0 s)) h).1
    (and_both (all_of is_digit s) (leb (value 0 s) hi) (and_both (ltb 0 (length s)) (all_of is_digit s and leb (value 0 s) hi) p).1).1

-- ---- read back

pub counting_read_back : (w : Whole) → w.negative ≡ false → within 1 2147483647 w.magnitude ≡ true → read_counting (write_whole w) ≡ Some w
unfolding pick
counting_read_back w e h =
    let n = w.magnitude in
    let g : n ≤ 2147483647 = (within_range 1 2147483647 n h).1 in
    rw (e, numeral 1 2147483647 n (omega arith) h, digits_value 9 n (omega arith))

-- d digits are enough, and ten are
abbrev pub is_enough : ℕ → ℕ → Bool
is_enough d hi = ltb 0 d and ltb hi (10 ^ d) and leb hi 2147483647

enough_short : (d lo hi n : ℕ) → is_enough d hi ≡ true → within lo hi n ≡ true → is_short d (digits 9 n) ≡ true
enough_short d lo hi n s h =
    let g : n ≤ hi = (within_range lo hi n h).1 in
    let a : 0 < d = ltb-true 0 d (and_both (ltb 0 d) (ltb hi (10 ^ d) and leb hi 2147483647) s).0 in
    let b : hi < 10 ^ d = ltb-true hi (10 ^ d) (and_both (ltb hi (10 ^ d)) (leb hi 2147483647) (and_both (ltb 0 d) (ltb hi (10 ^ d) and leb hi 2147483647) s).1).0 in
    le-leb (length (digits 9 n)) d (digits_short 9 d n a (omega arith))

enough_most : (d hi : ℕ) → is_enough d hi ≡ true → hi ≤ 2147483647
enough_most d hi s = leb-true hi 2147483647 (and_both (ltb hi (10 ^ d)) (leb hi 2147483647) (and_both (ltb 0 d) (ltb hi (10 ^ d) and leb hi 2147483647) s).1).1

module _ (d lo hi : ℕ) (enough : is_enough d hi ≡ true) (w : Whole) where
  pub unsigned_read_back : w.negative ≡ false → within lo hi w.magnitude ≡ true → read_unsigned d lo hi (write_whole w) ≡ Some w
  unfolding pick ◌and◌
  unsigned_read_back e h =
      let n = w.magnitude in
      let g : n ≤ hi = (within_range lo hi n h).1 in
      let m : hi ≤ 2147483647 = enough_most d hi enough in
      rw (e, enough_short d lo hi n enough h, numeral lo hi n m h, digits_value 9 n (omega arith))

  pub signed_read_back : within 1 hi w.magnitude ≡ true → read_signed d hi (write_whole w) ≡ Some w
  unfolding pick ◌and◌
  signed_read_back h =
      let n = w.magnitude in
      let g : n ≤ hi = (within_range 1 hi n h).1 in
      let m : hi ≤ 2147483647 = enough_most d hi enough in
      rw (whole_minus w, whole_rest w, enough_short d 1 hi n enough h, numeral 1 hi n m h, digits_value 9 n (omega arith))

-- ---- accepted

pub counting_accepted : (s : List ℕ) (w : Whole) → read_counting s ≡ Some w → (w.negative ≡ false) × (within 1 2147483647 w.magnitude ≡ true)
counting_accepted s w h =
    let e = provided-some (is_numeral 1 2147483647 s) (whole_number false (value 0 s)) w h in
    rw (← e.1) (refl, numeral_within 1 2147483647 s e.0)

module _ (d : ℕ) where
  pub unsigned_accepted : (lo hi : ℕ) (s : List ℕ) (w : Whole) → read_unsigned d lo hi s ≡ Some w → (w.negative ≡ false) × (within lo hi w.magnitude ≡ true)
  unsigned_accepted lo hi s w h =
      let e = provided-some (is_short d s and is_numeral lo hi s) (whole_number false (value 0 s)) w h in
      rw (← e.1) (refl, numeral_within lo hi s (and_both (is_short d s) (is_numeral lo hi s) e.0).1)

  pub signed_accepted : (hi : ℕ) (s : List ℕ) (w : Whole) → read_signed d hi s ≡ Some w → within 1 hi w.magnitude ≡ true
  signed_accepted hi s w h =
      let t = after_sign s in
      let e = provided-some (is_short d t and is_numeral 1 hi t) (whole_number (has_minus s) (value 0 t)) w h in
      rw (← e.1) (numeral_within 1 hi t (and_both (is_short d t) (is_numeral 1 hi t) e.0).1)

-- ---- characters

abbrev pub is_number_char : ℕ → Bool
is_number_char b = is_digit b or eqb b 45

pub whole_characters : (w : Whole) → all_of is_number_char (write_whole w) ≡ true
whole_characters w = whole_all is_number_char (λ b h. or_left (is_digit b) (eqb b 45) h) (or_right (is_digit 45) (eqb 45 45) refl) w
