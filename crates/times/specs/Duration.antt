-- DURATION (RFC 5545, section 3.3.6; RFC 6321, section 3.6.6): -PT15M, the same in text and in XML. A plus is read and not kept.
--     dur-value  = (["+"] / "-") "P" (dur_date / dur_time / dur_week)
--     dur_date   = dur-day [dur_time]
--     dur_time   = "T" (dur_hour / dur_minute / dur_second)
--     dur_week   = 1*DIGIT "W"
--     dur_hour   = 1*DIGIT "H" [dur_minute]
--     dur_minute = 1*DIGIT "M" [dur_second]
--     dur_second = 1*DIGIT "S"
--     dur-day    = 1*DIGIT "D"
-- Each rule is a test of the same name (dur-day is in dur_date): the spelling, to its end, is one of that rule.
--     is_duration     a kept value
--     read_duration, write_duration
use Rattle.std.specs.Prelude.{Bool, List, ℕ, ltb, drop, Option, Some}
use Rattle.octets.specs.Pick.{pick, ◌and◌, ◌or◌}
use Rattle.octets.specs.Scan.{span_len}
use Rattle.octets.specs.Class.{is_digit, upper}
use Rattle.octets.specs.Words.{is_empty}
use Rattle.calendar.specs.Calendar.{Format, ical, xcal}
use Rattle.times.specs.Spelling.{keep, begins}

-- 1*DIGIT and a letter, and then a rest that passes a test
unfoldable pub counted : ℕ → (List ℕ → Bool) → List ℕ → Bool
counted letter rest s = ltb 0 (span_len is_digit s) and begins letter rest (drop (span_len is_digit s) s)

-- [rule]
unfoldable pub optional : (List ℕ → Bool) → List ℕ → Bool
optional rule s = is_empty s or rule s

-- 1*DIGIT "S"
unfoldable pub dur_second : List ℕ → Bool
dur_second s = counted 83 is_empty s

-- 1*DIGIT "M" [dur_second]
unfoldable pub dur_minute : List ℕ → Bool
dur_minute s = counted 77 (optional dur_second) s

-- 1*DIGIT "H" [dur_minute]
unfoldable pub dur_hour : List ℕ → Bool
dur_hour s = counted 72 (optional dur_minute) s

-- "T" (dur_hour / dur_minute / dur_second)
unfoldable pub dur_time : List ℕ → Bool
dur_time s = begins 84 (λ r. dur_hour r or dur_minute r or dur_second r) s

-- 1*DIGIT "D" [dur_time]
unfoldable pub dur_date : List ℕ → Bool
dur_date s = counted 68 (optional dur_time) s

-- 1*DIGIT "W"
unfoldable pub dur_week : List ℕ → Bool
dur_week s = counted 87 is_empty s

-- "P" (dur_date / dur_time / dur_week)
unfoldable pub unsigned_duration : List ℕ → Bool
unsigned_duration s = begins 80 (λ r. dur_date r or dur_time r or dur_week r) s

-- the dur-value without a plus;   45 is -
unfoldable pub is_duration : List ℕ → Bool
is_duration s = unsigned_duration s or begins 45 unsigned_duration s

-- a dur-value, and its plus dropped;   43 is +
unfoldable pub duration_of : List ℕ → Option (List ℕ)
duration_of s = pick (begins 43 unsigned_duration s) (Some (drop 1 s)) (keep is_duration s)

unfoldable pub read_duration : Format → List ℕ → Option (List ℕ)
read_duration ical s = duration_of (upper s)
read_duration xcal s = duration_of s

unfoldable pub write_duration : Format → List ℕ → List ℕ
write_duration f v = v
