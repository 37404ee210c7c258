-- DATE-TIME (RFC 5545, section 3.3.5; RFC 6321, section 3.6.5): 20240504T080000Z in text, 2024-05-04T08:00:00Z in XML.
--     is_date_time   a kept value
--     read_date_time, write_date_time
use Rattle.std.specs.Prelude.{Bool, List, [], ◌∷◌, ℕ, take, drop, Option}
use Rattle.octets.specs.Pick.{◌and◌}
use Rattle.octets.specs.Class.{upper}
use Rattle.octets.specs.Reading.{and_then}
use Rattle.calendar.specs.Calendar.{Format, ical, xcal}
use Rattle.times.specs.Spelling.{Mark, mark, with_marks, without_marks, keep, begins}
use Rattle.times.specs.Date.{is_date}
use Rattle.times.specs.Time.{is_time}

-- date-time = date "T" time;   84 is T
unfoldable pub is_date_time : List ℕ → Bool
is_date_time s = is_date (take 8 s) and begins 84 is_time (drop 8 s)

-- those of the date, and those of the time after it;   45 is -, 58 is :
abbrev pub date_time_marks : List Mark
date_time_marks = mark 4 45 ∷ mark 7 45 ∷ mark 13 58 ∷ mark 16 58 ∷ []

unfoldable pub read_date_time : Format → List ℕ → Option (List ℕ)
read_date_time ical s = keep is_date_time (upper s)
read_date_time xcal s = and_then (without_marks date_time_marks s) (keep is_date_time)

unfoldable pub write_date_time : Format → List ℕ → List ℕ
write_date_time ical v = v
write_date_time xcal v = with_marks date_time_marks v
