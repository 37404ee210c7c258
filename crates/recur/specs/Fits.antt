-- Whether there is an item, as tests: the code answers these.
--     fits_form f k s    an item of the form k can be read from s
--     item_read          the answer of `read_item`: the place of the part where there is an item
use Rattle.std.specs.Prelude.{Bool, true, false, List, ℕ, Option, None, Some}
use Rattle.octets.specs.Pick.{◌and◌, ◌or◌}
use Rattle.octets.specs.Class.{is_alpha}
use Rattle.octets.specs.Words.{is_one_of, is_empty}
use Rattle.octets.specs.Reading.{is_read}
use Rattle.octets.specs.Front.{up_to, from_on}
use Rattle.calendar.specs.Calendar.{Format}
use Rattle.numbers.specs.Sign.{after_sign}
use Rattle.recur.specs.Parts.{ItemForm, word_of, enddate, counting, unsigned, signed, weekdaynum, weekdays}
use Rattle.recur.specs.Item.{in_capitals, is_numeral, is_short, read_enddate}

abbrev pub is_numeral_of : ℕ → ℕ → ℕ → List ℕ → Bool
is_numeral_of d lo hi s = is_short d s and is_numeral lo hi s

abbrev pub fits_ordinal : List ℕ → Bool
fits_ordinal s = is_empty s or is_numeral_of 2 1 53 (after_sign s)

abbrev pub fits_form : Format → ItemForm → List ℕ → Bool
fits_form f (word_of ws) s = is_one_of (in_capitals f s) ws
fits_form f enddate s = is_read (read_enddate f s)
fits_form f counting s = is_numeral 1 2147483647 s
fits_form f (unsigned d lo hi) s = is_numeral_of d lo hi s
fits_form f (signed d hi) s = is_numeral_of d 1 hi (after_sign s)
fits_form f weekdaynum s = fits_ordinal (up_to is_alpha s) and is_one_of (in_capitals f (from_on is_alpha s)) weekdays

abbrev pub item_read : ℕ → Bool → Option ℕ
item_read p true = Some p
item_read p false = None
