-- Laws of what specs/ReadBoolean.antt defines.
--     text_.., xml_..    the ways of reading it in text and in XML
use Rattle.std.specs.Prelude.{◌≡◌, Bool, true, false, List, ℕ, None, Some}
use Rattle.octets.specs.Ascii.{ascii}
use Rattle.octets.specs.Pick.{pick, ◌or◌}
use Rattle.octets.specs.Class.{upper}
use Rattle.octets.specs.Words.{same, is_one_of}
use Rattle.calendar.specs.Calendar.{ical, xcal}
use Rattle.numbers.specs.Boolean.{read_boolean}

-- ---- the words of a BOOLEAN

-- a and its successors are what the comparisons with the words answered, in the code's order
module _ (s : List ℕ) {a : Bool} (e : a ≡ same (upper s) (ascii "TRUE")) where
  pub text_true : a ≡ true → read_boolean ical s ≡ Some true
  unfolding pick
  text_true h = rw (← e, h)

  pub text_false : {b : Bool} → a ≡ false → b ≡ same (upper s) (ascii "FALSE") → b ≡ true → read_boolean ical s ≡ Some false
  unfolding pick
  text_false h f k = rw (← e, h, ← f, k)

  pub text_neither : {b : Bool} → a ≡ false → b ≡ same (upper s) (ascii "FALSE") → b ≡ false → read_boolean ical s ≡ None
  unfolding pick
  text_neither h f k = rw (← e, h, ← f, k)

module _ (s : List ℕ) {a : Bool} (e : a ≡ same s (ascii "true")) where
  pub xml_true : a ≡ true → read_boolean xcal s ≡ Some true
  unfolding pick is_one_of ◌or◌
  xml_true h = rw (← e, h)

  pub xml_one : {b : Bool} → a ≡ false → b ≡ same s (ascii "1") → b ≡ true → read_boolean xcal s ≡ Some true
  unfolding pick is_one_of ◌or◌
  xml_one h f k = rw (← e, h, ← f, k)

  pub xml_false : {b c : Bool} → a ≡ false → b ≡ same s (ascii "1") → b ≡ false → c ≡ same s (ascii "false") → c ≡ true → read_boolean xcal s ≡ Some false
  unfolding pick is_one_of ◌or◌
  xml_false h f k g l = rw (← e, h, ← f, k, ← g, l)

  pub xml_zero : {b c d : Bool} → a ≡ false → b ≡ same s (ascii "1") → b ≡ false → c ≡ same s (ascii "false") → c ≡ false →
      d ≡ same s (ascii "0") → d ≡ true → read_boolean xcal s ≡ Some false
  unfolding pick is_one_of ◌or◌
  xml_zero h f k g l i m = rw (← e, h, ← f, k, ← g, l, ← i, m)

  pub xml_neither : {b c d : Bool} → a ≡ false → b ≡ same s (ascii "1") → b ≡ false → c ≡ same s (ascii "false") → c ≡ false →
      d ≡ same s (ascii "0") → d ≡ false → read_boolean xcal s ≡ None
  unfolding pick is_one_of ◌or◌
  xml_neither h f k g l i m = rw (← e, h, ← f, k, ← g, l, ← i, m)
