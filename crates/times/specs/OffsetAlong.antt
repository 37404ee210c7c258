-- UTC-OFFSET by its two patterns: +0000 and +000000 in text, +00:00 and +00:00:00 in XML; a + of a pattern stands for either sign.
--     shift_of           what a reader's answer says
--     minute_pattern, second_pattern  the patterns in a format
--     followed_to_end    the number of digits that were followed to the end
--     offset_by          the offset of a sign and six digits that are worth n, the last two given or not
use Rattle.std.specs.Prelude.{◌≡◌, Bool, true, false, List, ◌∷◌, ℕ, ◌*◌, ◌/◌, ◌%◌, ltb, Option, None, Some}
use Rattle.octets.specs.Pick.{pick, ◌and◌}
use Rattle.octets.specs.Append.{◌⊕◌}
use Rattle.octets.specs.Ascii.{ascii}
use Rattle.octets.specs.Words.{is_empty}
use Rattle.octets.specs.Reading.{provided, or_nothing}
use Rattle.calendar.specs.Calendar.{Format, ical, xcal}
use Rattle.source.specs.Source.{rest}
use Rattle.times.specs.Spelling.{begins}
use Rattle.times.specs.Pattern.{Followed, reached, lost, along}
use Rattle.times.specs.TimeAlong.{is_hms}
use Rattle.times.specs.Digits.{two_digits}
use Rattle.times.specs.declared.offset.UtcOffset.{UtcOffset}

abbrev pub minute_pattern : Format → List ℕ
minute_pattern ical = ascii "+0000"
minute_pattern xcal = ascii "+00:00"

abbrev pub second_pattern : Format → List ℕ
second_pattern ical = ascii "+000000"
second_pattern xcal = ascii "+00:00:00"

-- the number of what was followed to the end
unfoldable pub followed_to_end : Followed → Option ℕ
followed_to_end lost = None
followed_to_end (reached n r) = pick (is_empty r) (Some n) None

-- a sign, hour, minute and, if given, second
unfoldable pub shift_bytes : Bool → ℕ → ℕ → Option ℕ → List ℕ
shift_bytes neg h m s = pick neg 45 43 ∷ (two_digits h ⊕ two_digits m ⊕ or_nothing two_digits s)

-- in range, and no negative zero
unfoldable pub offset_by : Bool → Bool → ℕ → Option (List ℕ)
offset_by neg w n =
    provided (is_hms (n / 10000 % 100) (n / 100 % 100) (n % 100) and pick neg (ltb 0 n) true)
    (shift_bytes neg (n / 10000 % 100) (n / 100 % 100) (provided w (n % 100)))

unfoldable pub is_minus : List ℕ → Bool
is_minus s = begins 45 (λ r. true) s

-- by four digits, by six, or not at all
unfoldable pub offset_of : Bool → Option ℕ → Option ℕ → Option (List ℕ)
offset_of neg (Some n) k = offset_by neg false (n % 10000 * 100)
offset_of neg None (Some n) = offset_by neg true n
offset_of neg None None = None

-- ---- the ways of a reader

-- what a reader answers
abbrev pub shift_of : Option UtcOffset → Option (List ℕ)
shift_of (Some o) = Some (shift_bytes o.negative o.hour o.minute o.second)
shift_of None = None

-- a pattern followed to the end: the number of its digits
pub record WalksToEnd (p : List ℕ) (m : ℕ) (s : List ℕ) (c : ℕ) (r : Option ℕ) : Type 0 where
  pub is : followed_to_end (along p 0 (rest m s c)) ≡ r
