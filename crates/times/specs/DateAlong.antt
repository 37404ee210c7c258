-- DATE by its pattern: 00000000 in text, 0000-00-00 in XML.
--     day_of         what a reader's answer says
--     date_pattern   the pattern in a format
--     day_from n     the date of eight digits that are worth n, if there is such a day
use Rattle.std.specs.Prelude.{List, ℕ, ◌/◌, ◌%◌, Option, None, Some}
use Rattle.octets.specs.Pick.{pick}
use Rattle.octets.specs.Ascii.{ascii}
use Rattle.octets.specs.Words.{is_empty}
use Rattle.octets.specs.Reading.{provided}
use Rattle.calendar.specs.Calendar.{Format, ical, xcal}
use Rattle.times.specs.Pattern.{Followed, reached, lost}
use Rattle.gregorian.specs.Month.{is_day}
use Rattle.times.specs.Digits.{date_of}
use Rattle.times.specs.declared.date.Date.{Date}

-- what a reader answers
abbrev pub day_of : Option Date → Option (List ℕ)
day_of (Some d) = Some (date_of d.year d.month d.day)
day_of None = None

abbrev pub date_pattern : Format → List ℕ
date_pattern ical = ascii "00000000"
date_pattern xcal = ascii "0000-00-00"

unfoldable pub day_from : ℕ → Option (List ℕ)
day_from n = provided (is_day (n / 10000 % 10000) (n / 100 % 100) (n % 100)) (date_of (n / 10000 % 10000) (n / 100 % 100) (n % 100))

unfoldable pub dated : Followed → Option (List ℕ)
dated lost = None
dated (reached n r) = pick (is_empty r) (day_from n) None
