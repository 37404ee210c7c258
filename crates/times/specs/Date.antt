-- DATE (RFC 5545, section 3.3.4; RFC 6321, section 3.6.4): a day of the Gregorian calendar, years 0000 to 9999. 20240504 in text, 2024-05-04 in XML.
-- Its days are those of the Gregorian rule (crate gregorian); that DATE accepts exactly these is shown in MonthRule.
--     is_date                    a kept value: eight digits of a real day
--     read_date, write_date
use Rattle.std.specs.Prelude.{Bool, List, [], ◌∷◌, ℕ, eqb, length, take, drop, Option}
use Rattle.octets.specs.Pick.{◌and◌}
use Rattle.octets.specs.Scan.{all_of}
use Rattle.octets.specs.Class.{is_digit}
use Rattle.octets.specs.Decimal.{value}
use Rattle.octets.specs.Reading.{and_then}
use Rattle.calendar.specs.Calendar.{Format, ical, xcal}
use Rattle.gregorian.specs.Month.{is_day}
use Rattle.times.specs.Spelling.{Mark, mark, with_marks, without_marks, keep}

-- date-value = date-fullyear date-month date-mday
-- date-fullyear = 4DIGIT;   date-month = 2DIGIT ;01-12;   date-mday = 2DIGIT ;01-28, 01-29, 01-30, 01-31 based on month/year
unfoldable pub is_date : List ℕ → Bool
is_date s = eqb (length s) 8 and all_of is_digit s and is_day (value 0 (take 4 s)) (value 0 (take 2 (drop 4 s))) (value 0 (drop 6 s))

-- 45 is -
abbrev pub date_marks : List Mark
date_marks = mark 4 45 ∷ mark 7 45 ∷ []

unfoldable pub read_date : Format → List ℕ → Option (List ℕ)
read_date ical s = keep is_date s
read_date xcal s = and_then (without_marks date_marks s) (keep is_date)

unfoldable pub write_date : Format → List ℕ → List ℕ
write_date ical v = v
write_date xcal v = with_marks date_marks v
