-- TIME by its pattern: 000000 in text, 00:00:00 in XML, and Z or nothing after it.
--     clock_of        what a reader's answer says
--     time_pattern    the pattern in a format
--     clock_from n r  the time of six digits that are worth n, with r after them
--     zone, clock_by  the same in two steps: the zone that is after them, if it is one, and the time in a zone
use Rattle.std.specs.Prelude.{Bool, true, false, List, [], ◌∷◌, ℕ, ◌/◌, ◌%◌, leb, Option, None, Some}
use Rattle.octets.specs.Pick.{pick, ◌and◌, ◌or◌}
use Rattle.octets.specs.Append.{◌⊕◌}
use Rattle.octets.specs.Ascii.{ascii}
use Rattle.octets.specs.Words.{is_empty, same}
use Rattle.octets.specs.Reading.{provided}
use Rattle.calendar.specs.Calendar.{Format, ical, xcal}
use Rattle.times.specs.Pattern.{Followed, reached, lost}
use Rattle.times.specs.Digits.{two_digits}
use Rattle.times.specs.declared.time.Time.{Time}
use Rattle.times.specs.declared.time.Zone.{Zone}
use Rattle.times.specs.declared.time.Zone.TheVariants.{Local, Utc}

abbrev pub time_pattern : Format → List ℕ
time_pattern ical = ascii "000000"
time_pattern xcal = ascii "00:00:00"

-- hour, minute and second in range
unfoldable pub is_hms : ℕ → ℕ → ℕ → Bool
is_hms h m s = leb h 23 and leb m 59 and leb s 60

-- nothing, or Z
unfoldable pub is_zone : List ℕ → Bool
is_zone r = is_empty r or same r (ascii "Z")

unfoldable pub hms : ℕ → ℕ → ℕ → List ℕ → List ℕ
hms h m s r = two_digits h ⊕ two_digits m ⊕ two_digits s ⊕ r

unfoldable pub clock_from : ℕ → List ℕ → Option (List ℕ)
clock_from n r = provided (is_hms (n / 10000 % 100) (n / 100 % 100) (n % 100) and is_zone r) (hms (n / 10000 % 100) (n / 100 % 100) (n % 100) r)

unfoldable pub timed : Followed → Option (List ℕ)
timed lost = None
timed (reached n r) = clock_from n r

unfoldable pub zone : List ℕ → Option Zone
zone r = pick (is_empty r) (Some Local) (provided (same r (ascii "Z")) Utc)

abbrev pub is_utc : Zone → Bool
is_utc Local = false
is_utc Utc = true

-- 90 is Z
unfoldable pub time_of : ℕ → ℕ → ℕ → Bool → List ℕ
time_of h m s z = hms h m s (pick z (90 ∷ []) [])

unfoldable pub clock_by : ℕ → Zone → Option (List ℕ)
clock_by n z = provided (is_hms (n / 10000 % 100) (n / 100 % 100) (n % 100)) (time_of (n / 10000 % 100) (n / 100 % 100) (n % 100) (is_utc z))

-- what a reader answers
abbrev pub clock_of : Option Time → Option (List ℕ)
clock_of (Some t) = Some (time_of t.hour t.minute t.second t.utc)
clock_of None = None
