-- `json_text::in_string` meets its contract. Assumes nothing.
use borrow.Author.Rules.{rules}
use Rattle.octets.specs.laws.Pick.{branching}
use Rattle.json_text.proofs.strings.in_string.Goals as goal

pub returns-then-b-eq92 : goal.returns-then-b-eq92
returns-then-b-eq92 c = rw c.in-High.is (search branching)

pub returns-then-b-eq117 : goal.returns-then-b-eq117
returns-then-b-eq117 c = rw c.in-HighEscape.is (search branching)

pub returns-in-Chars : goal.returns-in-Chars
returns-in-Chars c = rw c.in-Chars.is c.in_chars.ensures

pub returns-in-Escape : goal.returns-in-Escape
returns-in-Escape c = rw c.in-Escape.is c.in_escape.ensures

pub returns-in-Hex : goal.returns-in-Hex
returns-in-Hex c = rw (c.in-Hex.is, ← c.hex_value.ensures) c.take_digit.ensures

pub returns-else-b-eq92 : goal.returns-else-b-eq92
returns-else-b-eq92 c = rw c.in-High.is (search branching)

pub returns-else-b-eq117 : goal.returns-else-b-eq117
returns-else-b-eq117 c = rw c.in-HighEscape.is (search branching)

pub returns-in-Low : goal.returns-in-Low
returns-in-Low c = rw (c.in-Low.is, ← c.hex_value-in-Low.ensures) c.take_low_digit.ensures
