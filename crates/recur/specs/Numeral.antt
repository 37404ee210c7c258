-- Numbers of rule parts as the code reads them through the cursor.
--     numeral_in lo hi s      what the digits of s are worth, which must have a digit and be worth lo to hi
use Rattle.std.specs.Prelude.{List, ℕ, Option}
use Rattle.octets.specs.Decimal.{value}
use Rattle.octets.specs.Reading.{provided}
use Rattle.recur.specs.Item.{is_numeral}

unfoldable pub numeral_in : ℕ → ℕ → List ℕ → Option ℕ
numeral_in lo hi s = provided (is_numeral lo hi s) (value 0 s)
