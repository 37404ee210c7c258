-- DATE-TIME by its pattern: 00000000T000000 in text, 0000-00-00T00:00:00 in XML, and Z or nothing after it.
--     moment_of          what a reader's answer says
--     date_time_pattern  the pattern in a format
--     moment_from n r    the date-time of fourteen digits that are worth n, with r after them;   moment_by: in a zone
--     date_time_of       the digits of a date-time
use Rattle.std.specs.Prelude.{List, ◌∷◌, ℕ, ◌/◌, ◌%◌, Option, None, Some}
use Rattle.octets.specs.Append.{◌⊕◌}
use Rattle.octets.specs.Ascii.{ascii}
use Rattle.octets.specs.Reading.{and_then}
use Rattle.calendar.specs.Calendar.{Format, ical, xcal}
use Rattle.times.specs.Pattern.{Followed, reached, lost}
use Rattle.times.specs.Digits.{date_of}
use Rattle.times.specs.DateAlong.{day_from}
use Rattle.times.specs.TimeAlong.{time_of, clock_from, clock_by}
use Rattle.times.specs.declared.date_time.DateTime.{DateTime}
use Rattle.times.specs.declared.time.Zone.{Zone}

abbrev pub date_time_pattern : Format → List ℕ
date_time_pattern ical = ascii "00000000T000000"
date_time_pattern xcal = ascii "0000-00-00T00:00:00"

-- a date and a time with T between them
unfoldable pub join_time : List ℕ → Option (List ℕ) → Option (List ℕ)
join_time d None = None
join_time d (Some t) = Some (d ⊕ (84 ∷ t))

unfoldable pub moment_from : ℕ → List ℕ → Option (List ℕ)
moment_from n r = and_then (day_from (n / 1000000)) (λ d. join_time d (clock_from (n % 1000000) r))

unfoldable pub moment_by : ℕ → Zone → Option (List ℕ)
moment_by n z = and_then (day_from (n / 1000000)) (λ d. join_time d (clock_by (n % 1000000) z))

unfoldable pub moment : Followed → Option (List ℕ)
moment lost = None
moment (reached n r) = moment_from n r

abbrev pub date_time_of : DateTime → List ℕ
date_time_of t = date_of t.date.year t.date.month t.date.day ⊕ (84 ∷ time_of t.time.hour t.time.minute t.time.second t.time.utc)

-- what a reader answers
abbrev pub moment_of : Option DateTime → Option (List ℕ)
moment_of (Some t) = Some (date_time_of t)
moment_of None = None
