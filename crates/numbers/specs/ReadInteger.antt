-- INTEGER as the code reads and writes it.
--     number_in most s     what the digits of s are worth, which must have a digit and be worth no more than most
--     whole_is m n         the number of sign m and magnitude n
--     whole_of             the number that is read
use Rattle.std.specs.Prelude.{Bool, List, ℕ, Option}
use Rattle.octets.specs.Decimal.{value, is_number}
use Rattle.octets.specs.Reading.{provided}
use Rattle.calendar.specs.Calendar.{Whole}
use Rattle.numbers.specs.declared.integer.Integer.{Integer}

unfoldable pub number_in : ℕ → List ℕ → Option ℕ
number_in m s = provided (is_number m s) (value 0 s)

abbrev pub whole_is : Bool → ℕ → Whole
whole_is m n = record { negative = m; magnitude = n }

abbrev pub whole_of : Integer → Whole
whole_of n = whole_is n.negative n.magnitude
