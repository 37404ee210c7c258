-- The months of the Gregorian calendar (RFC 5545, section 3.3.4: "date-mday = 2DIGIT ;01-28, 01-29, 01-30, 01-31 based on month/year").
--     is_leap_year, days_in_month  the Gregorian rule
--     is_day                       a day of it, by year, month and day of the month
use Rattle.std.specs.Prelude.{Bool, ℕ, ◌%◌, eqb}
use Rattle.octets.specs.Pick.{pick, ◌and◌, ◌or◌, within}

-- every fourth year, but of the full centuries only every fourth
unfoldable pub is_leap_year : ℕ → Bool
is_leap_year y = pick (eqb (y % 100) 0) (eqb (y % 400) 0) (eqb (y % 4) 0)

-- April, June, September, November
unfoldable pub has_thirty_days : ℕ → Bool
has_thirty_days m = eqb m 4 or eqb m 6 or eqb m 9 or eqb m 11

unfoldable pub days_in_month : ℕ → ℕ → ℕ
days_in_month y m = pick (eqb m 2) (pick (is_leap_year y) 29 28) (pick (has_thirty_days m) 30 31)

-- a year, a month of 1 to 12 and a day of that month
unfoldable pub is_day : ℕ → ℕ → ℕ → Bool
is_day y m d = within 1 12 m and within 1 (days_in_month y m) d
