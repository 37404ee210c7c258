-- PERIOD in iCalendar text (RFC 5545, section 3.3.9): a start, and its end or a duration. In XML a period is made of elements (RFC 6321, section 3.6.9).
--     read_period     19970101T180000Z/19970102T070000Z, 19970101T180000Z/PT5H30M
--     write_period    of the start, and the end or the duration
use Rattle.std.specs.Prelude.{Bool, true, false, List, ◌∷◌, ℕ, eqb, take, drop, Option, Some}
use Rattle.octets.specs.Pick.{pick, ◌or◌}
use Rattle.octets.specs.Scan.{span_len}
use Rattle.octets.specs.Append.{◌⊕◌}
use Rattle.octets.specs.Class.{upper}
use Rattle.octets.specs.Reading.{and_then}
use Rattle.calendar.specs.Calendar.{ical, Value, period_explicit, period_start}
use Rattle.times.specs.Spelling.{is_time_char}
use Rattle.times.specs.DateTime.{is_date_time, read_date_time}
use Rattle.times.specs.Duration.{read_duration}

-- 47 is the slash
unfoldable pub is_no_slash : ℕ → Bool
is_no_slash b = pick (eqb b 47) false true

-- where the first slash stands; the length, if there is none
abbrev pub slash_at : List ℕ → ℕ
slash_at s = span_len is_no_slash s

-- the period that begins at start and goes on as s does after its slash
-- period-explicit = date-time "/" date-time;   period-start = date-time "/" dur-value
unfoldable pub period_from : List ℕ → List ℕ → Option Value
period_from start s =
    pick (is_date_time (upper s)) (Some (period_explicit start (upper s)))
    (and_then (read_duration ical s) (λ d. Some (period_start start d)))

unfoldable pub read_period : List ℕ → Option Value
read_period s = and_then (read_date_time ical (take (slash_at s) s)) (λ start. period_from start (drop 1 (drop (slash_at s) s)))

unfoldable pub write_period : List ℕ → List ℕ → List ℕ
write_period start end = start ⊕ (47 ∷ end)

-- the characters of date-times and durations, and the slash
unfoldable pub is_period_char : ℕ → Bool
is_period_char b = is_time_char b or eqb b 47
