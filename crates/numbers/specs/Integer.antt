-- INTEGER (RFC 5545, section 3.3.8; RFC 6321, section 3.6.8), the same in text and in XML: integer = (["+"] / "-") 1*DIGIT, from -2147483648 to 2147483647.
--     integer_of m n  the number of magnitude n, negative if m says so and it is not zero
--     write_whole     a minus if it is negative, and its digits; for magnitudes below 10 ^ 10
--     read_integer, write_integer, is_integer
use Rattle.std.specs.Prelude.{Bool, true, false, List, ℕ, ltb, leb, Option}
use Rattle.octets.specs.Pick.{pick, ◌and◌, within}
use Rattle.octets.specs.Decimal.{value, is_number, digits}
use Rattle.octets.specs.Reading.{provided}
use Rattle.calendar.specs.Calendar.{Whole}
use Rattle.numbers.specs.Sign.{has_minus, after_sign, minus_if}

-- the largest magnitude of a negative number, and of another
abbrev pub most : Bool → ℕ
most true = 2147483648
most false = 2147483647

-- `-0` is 0
abbrev pub integer_of : Bool → ℕ → Whole
integer_of m n = record { negative = m and ltb 0 n; magnitude = n }

abbrev pub write_whole : Whole → List ℕ
write_whole w = minus_if w.negative (digits 9 w.magnitude)

abbrev pub read_integer : List ℕ → Option Whole
read_integer s = provided (is_number (most (has_minus s)) (after_sign s)) (integer_of (has_minus s) (value 0 (after_sign s)))

abbrev pub write_integer : Whole → List ℕ
write_integer w = write_whole w

abbrev pub is_integer : Whole → Bool
is_integer w = pick w.negative (within 1 2147483648 w.magnitude) (leb w.magnitude 2147483647)
