-- TIME (RFC 5545, section 3.3.12; RFC 6321, section 3.6.12): hour to 23, minute to 59, second to 60, and Z for UTC. 080000Z in text, 08:00:00Z in XML.
--     is_clock   the digits of hour, minute and, if given, second, each in its range
--     is_time    a kept value
--     read_time, write_time
use Rattle.std.specs.Prelude.{Bool, List, [], ◌∷◌, ℕ, leb, length, take, drop, Option}
use Rattle.octets.specs.Ascii.{ascii}
use Rattle.octets.specs.Pick.{◌and◌, ◌or◌}
use Rattle.octets.specs.Scan.{all_of}
use Rattle.octets.specs.Class.{is_digit, upper}
use Rattle.octets.specs.Words.{same, is_empty}
use Rattle.octets.specs.Decimal.{value}
use Rattle.octets.specs.Reading.{and_then}
use Rattle.calendar.specs.Calendar.{Format, ical, xcal}
use Rattle.times.specs.Spelling.{Mark, mark, with_marks, without_marks, keep}

-- time-hour = 2DIGIT ;00-23;   time-minute = 2DIGIT ;00-59;   time-second = 2DIGIT ;00-60
unfoldable pub is_clock : List ℕ → Bool
is_clock s = all_of is_digit s and leb (value 0 (take 2 s)) 23 and leb (value 0 (take 2 (drop 2 s))) 59 and leb (value 0 (drop 4 s)) 60

-- time = time-hour time-minute time-second [time-utc];   time-utc = "Z"
unfoldable pub is_time : List ℕ → Bool
is_time s = leb 6 (length s) and is_clock (take 6 s) and (is_empty (drop 6 s) or same (drop 6 s) (ascii "Z"))

-- 58 is :
abbrev pub time_marks : List Mark
time_marks = mark 2 58 ∷ mark 5 58 ∷ []

unfoldable pub read_time : Format → List ℕ → Option (List ℕ)
read_time ical s = keep is_time (upper s)
read_time xcal s = and_then (without_marks time_marks s) (keep is_time)

unfoldable pub write_time : Format → List ℕ → List ℕ
write_time ical v = v
write_time xcal v = with_marks time_marks v
