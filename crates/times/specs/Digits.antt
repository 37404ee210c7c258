-- The digits of dates and times.
--     two_digits n     the two digits of a number below 100
--     date_of y m d    the eight digits of a year, a month and a day
use Rattle.std.specs.Prelude.{List, [], ◌∷◌, ℕ, ◌+◌, ◌/◌, ◌%◌}
use Rattle.octets.specs.Append.{◌⊕◌}

unfoldable pub two_digits : ℕ → List ℕ
two_digits n = (48 + n / 10) ∷ (48 + n % 10) ∷ []

unfoldable pub date_of : ℕ → ℕ → ℕ → List ℕ
date_of y m d = two_digits (y / 100) ⊕ two_digits (y % 100) ⊕ two_digits m ⊕ two_digits d
