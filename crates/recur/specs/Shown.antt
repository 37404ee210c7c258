-- What is written of an item, from its characters, as the code writes it.
--     shown g f k s     what is written in the format g of an item of the form k that is read from s in the format f
use Rattle.std.specs.Prelude.{List, [], ℕ, Option, None, Some, unwrap_or}
use Rattle.octets.specs.Pick.{pick}
use Rattle.octets.specs.Append.{◌⊕◌}
use Rattle.octets.specs.Class.{is_alpha}
use Rattle.octets.specs.Words.{is_empty}
use Rattle.octets.specs.Reading.{or_nothing}
use Rattle.octets.specs.Front.{up_to, from_on}
use Rattle.calendar.specs.Calendar.{Format}
use Rattle.numbers.specs.Sign.{has_minus, after_sign}
use Rattle.numbers.specs.Integer.{write_whole}
use Rattle.recur.specs.Parts.{ItemForm, word_of, enddate, counting, unsigned, signed, weekdaynum, Part}
use Rattle.recur.specs.Item.{in_capitals, read_enddate, write_enddate, whole_number}
use Rattle.recur.specs.Numeral.{numeral_in}

-- 2 ^ 32 - 1 stands for what is no number, as code writes it; no item has such characters
abbrev pub shown_number : List ℕ → List ℕ
shown_number s = write_whole (whole_number (has_minus s) (unwrap_or (numeral_in 0 2147483647 (after_sign s)) 4294967295))

abbrev pub shown_ordinal : List ℕ → List ℕ
shown_ordinal s = pick (is_empty s) [] (shown_number s)

abbrev pub shown : Format → Format → ItemForm → List ℕ → List ℕ
shown g f (word_of ws) s = in_capitals f s
shown g f enddate s = or_nothing (write_enddate g) (read_enddate f s)
shown g f counting s = shown_number s
shown g f (unsigned d lo hi) s = shown_number s
shown g f (signed d hi) s = shown_number s
shown g f weekdaynum s = shown_ordinal (up_to is_alpha s) ⊕ in_capitals f (from_on is_alpha s)

-- ---- an item by its part

abbrev pub shown_at : Format → Format → Option Part → List ℕ → List ℕ
shown_at g f None s = []
shown_at g f (Some r) s = shown g f r.form s
