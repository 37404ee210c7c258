-- One item of a rule part (RFC 5545, section 3.3.10), read and written. From text and from XML it is the same, but that letters are read in any case from text
-- and exactly as capitals from XML, and UNTIL has the spelling of a DATE or DATE-TIME of its format.
--     read_item    the item of a part of a given name
--     write_item   the characters of an item: numbers without plus and leading zeros
--     is_item      an item that a part of a given name can have
use Rattle.std.specs.Prelude.{Bool, true, false, List, [], ◌∷◌, ℕ, leb, length, Option, None, Some}
use Rattle.octets.specs.Pick.{pick, ◌and◌, ◌or◌, within}
use Rattle.octets.specs.Append.{◌⊕◌}
use Rattle.octets.specs.Class.{is_alpha, upper}
use Rattle.octets.specs.Words.{is_one_of}
use Rattle.octets.specs.Decimal.{value, is_number}
use Rattle.octets.specs.Reading.{provided, and_then}
use Rattle.octets.specs.Front.{up_to, from_on}
use Rattle.calendar.specs.Calendar.{Format, ical, xcal, Whole, RuleItem, moment, number, word, weekday}
use Rattle.times.specs.Date.{is_date, read_date, write_date}
use Rattle.times.specs.DateTime.{is_date_time, read_date_time, write_date_time}
use Rattle.numbers.specs.Sign.{has_minus, after_sign}
use Rattle.numbers.specs.Integer.{write_whole}
use Rattle.recur.specs.Parts.{ItemForm, word_of, enddate, counting, unsigned, signed, weekdaynum, Part, part_of, weekdays}

abbrev pub whole_number : Bool → ℕ → Whole
whole_number minus n = record { negative = minus; magnitude = n }

-- ---- words: FREQ, WKST and the weekday of BYDAY

abbrev pub in_capitals : Format → List ℕ → List ℕ
in_capitals ical s = upper s
in_capitals xcal s = s

abbrev pub read_word : Format → List (List ℕ) → List ℕ → Option (List ℕ)
read_word f ws s = provided (is_one_of (in_capitals f s) ws) (in_capitals f s)

-- ---- numbers

-- digits that are worth lo to hi
abbrev pub is_numeral : ℕ → ℕ → List ℕ → Bool
is_numeral lo hi s = is_number hi s and leb lo (value 0 s)

abbrev pub is_short : ℕ → List ℕ → Bool
is_short d s = leb (length s) d

-- 1*DIGIT, 1 to 2147483647
abbrev pub read_counting : List ℕ → Option Whole
read_counting s = provided (is_numeral 1 2147483647 s) (whole_number false (value 0 s))

-- 1*dDIGIT, lo to hi
abbrev pub read_unsigned : ℕ → ℕ → ℕ → List ℕ → Option Whole
read_unsigned d lo hi s = provided (is_short d s and is_numeral lo hi s) (whole_number false (value 0 s))

-- [plus / minus] 1*dDIGIT, 1 to hi
abbrev pub read_signed : ℕ → ℕ → List ℕ → Option Whole
read_signed d hi s = provided (is_short d (after_sign s) and is_numeral 1 hi (after_sign s)) (whole_number (has_minus s) (value 0 (after_sign s)))

-- ---- weekdays: an ordinal, if there are characters before the first letter, and a weekday

abbrev pub read_ordinal : List ℕ → Option (Option Whole)
read_ordinal [] = Some None
read_ordinal (b ∷ s) = and_then (read_signed 2 53 (b ∷ s)) (λ w. Some (Some w))

abbrev pub write_ordinal : Option Whole → List ℕ
write_ordinal None = []
write_ordinal (Some w) = write_whole w

abbrev pub read_weekday : Format → List ℕ → Option RuleItem
read_weekday f s = and_then (read_ordinal (up_to is_alpha s)) (λ o. and_then (read_word f weekdays (from_on is_alpha s)) (λ d. Some (weekday o d)))

-- ---- the end of a rule: enddate = date / date-time

abbrev pub or_other : {A : Type 0} → Option A → Option A → Option A
or_other None o = o
or_other (Some a) o = Some a

abbrev pub read_enddate : Format → List ℕ → Option (List ℕ)
read_enddate f s = or_other (read_date f s) (read_date_time f s)

abbrev pub write_enddate : Format → List ℕ → List ℕ
write_enddate f m = pick (is_date m) (write_date f m) (write_date_time f m)

-- ---- an item by what it is

abbrev pub read_form : Format → ItemForm → List ℕ → Option RuleItem
read_form f (word_of ws) s = and_then (read_word f ws s) (λ w. Some (word w))
read_form f enddate s = and_then (read_enddate f s) (λ m. Some (moment m))
read_form f counting s = and_then (read_counting s) (λ w. Some (number w))
read_form f (unsigned d lo hi) s = and_then (read_unsigned d lo hi s) (λ w. Some (number w))
read_form f (signed d hi) s = and_then (read_signed d hi s) (λ w. Some (number w))
read_form f weekdaynum s = read_weekday f s

abbrev pub write_item : Format → RuleItem → List ℕ
write_item f (moment m) = write_enddate f m
write_item f (number w) = write_whole w
write_item f (word w) = w
write_item f (weekday o d) = write_ordinal o ⊕ d

abbrev pub is_word_of : List (List ℕ) → RuleItem → Bool
is_word_of ws (moment m) = false
is_word_of ws (number w) = false
is_word_of ws (word w) = is_one_of w ws
is_word_of ws (weekday o d) = false

abbrev pub is_enddate : RuleItem → Bool
is_enddate (moment m) = is_date m or is_date_time m
is_enddate (number w) = false
is_enddate (word w) = false
is_enddate (weekday o d) = false

abbrev pub is_unsigned : ℕ → ℕ → RuleItem → Bool
is_unsigned lo hi (moment m) = false
is_unsigned lo hi (number w) = pick w.negative false (within lo hi w.magnitude)
is_unsigned lo hi (word w) = false
is_unsigned lo hi (weekday o d) = false

abbrev pub is_signed : ℕ → RuleItem → Bool
is_signed hi (moment m) = false
is_signed hi (number w) = within 1 hi w.magnitude
is_signed hi (word w) = false
is_signed hi (weekday o d) = false

abbrev pub is_ordinal : Option Whole → Bool
is_ordinal None = true
is_ordinal (Some w) = within 1 53 w.magnitude

abbrev pub is_weekdaynum : RuleItem → Bool
is_weekdaynum (moment m) = false
is_weekdaynum (number w) = false
is_weekdaynum (word w) = false
is_weekdaynum (weekday o d) = is_ordinal o and is_one_of d weekdays

abbrev pub is_of_form : ItemForm → RuleItem → Bool
is_of_form (word_of ws) i = is_word_of ws i
is_of_form enddate i = is_enddate i
is_of_form counting i = is_unsigned 1 2147483647 i
is_of_form (unsigned d lo hi) i = is_unsigned lo hi i
is_of_form (signed d hi) i = is_signed hi i
is_of_form weekdaynum i = is_weekdaynum i

-- ---- an item of a part of a given name

abbrev pub read_item : Format → List ℕ → List ℕ → Option RuleItem
read_item f n s = and_then (part_of n) (λ r. read_form f r.form s)

abbrev pub is_for : Option Part → RuleItem → Bool
is_for None i = false
is_for (Some r) i = is_of_form r.form i

abbrev pub is_item : List ℕ → RuleItem → Bool
is_item n i = is_for (part_of n) i
