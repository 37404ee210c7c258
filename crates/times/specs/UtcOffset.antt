-- UTC-OFFSET (RFC 5545, section 3.3.14; RFC 6321, section 3.6.14): a sign, hours to 23, minutes to 59 and, if given, seconds to 60; no negative zero. (RFC 5545 itself allows no 60.)
-- +0100 and -013015 in text, +01:00 and -01:30:15 in XML.
--     is_utc_offset   a kept value
--     read_utc_offset, write_utc_offset
use Rattle.std.specs.Prelude.{Bool, List, [], ◌∷◌, ℕ, eqb, ltb, length, Option, None}
use Rattle.octets.specs.Pick.{pick, ◌and◌, ◌or◌}
use Rattle.octets.specs.Decimal.{value}
use Rattle.octets.specs.Reading.{and_then}
use Rattle.calendar.specs.Calendar.{Format, ical, xcal}
use Rattle.times.specs.Spelling.{Mark, mark, with_marks, without_marks, keep, begins}
use Rattle.times.specs.Time.{is_clock}

-- time-hour time-minute [time-second]
unfoldable pub is_shift : List ℕ → Bool
is_shift s = (eqb (length s) 4 or eqb (length s) 6) and is_clock s

-- the same, and not zero
unfoldable pub is_some_shift : List ℕ → Bool
is_some_shift s = is_shift s and ltb 0 (value 0 s)

-- time-numzone = ("+" / "-") time-hour time-minute [time-second];   43 is +, 45 is -
unfoldable pub is_utc_offset : List ℕ → Bool
is_utc_offset s = begins 43 is_shift s or begins 45 is_some_shift s

-- without seconds and with them;   58 is :
abbrev pub minute_marks : List Mark
minute_marks = mark 3 58 ∷ []

abbrev pub second_marks : List Mark
second_marks = mark 3 58 ∷ mark 6 58 ∷ []

-- +01:00 has six characters, +01:00:30 nine
unfoldable pub read_utc_offset : Format → List ℕ → Option (List ℕ)
read_utc_offset ical s = keep is_utc_offset s
read_utc_offset xcal s =
    pick (eqb (length s) 6) (and_then (without_marks minute_marks s) (keep is_utc_offset)) (
    pick (eqb (length s) 9) (and_then (without_marks second_marks s) (keep is_utc_offset))
    None)

-- +0100 has five characters
unfoldable pub write_utc_offset : Format → List ℕ → List ℕ
write_utc_offset ical v = v
write_utc_offset xcal v = with_marks (pick (eqb (length v) 5) minute_marks second_marks) v
