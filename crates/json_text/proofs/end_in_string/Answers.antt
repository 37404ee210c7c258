-- `json_text::end_in_string` meets its contract. Assumes nothing.
use borrow.Author.Rules.{rules}
use Rattle.json_text.proofs.end_in_string.Goals as goal

pub returns-in-Chars : goal.returns-in-Chars
returns-in-Chars c = rw c.in-Chars.is

pub returns-in-Escape : goal.returns-in-Escape
returns-in-Escape c = rw c.in-Escape.is

pub returns-in-Hex : goal.returns-in-Hex
returns-in-Hex c = rw c.in-Hex.is

pub returns-in-High : goal.returns-in-High
returns-in-High c = rw c.in-High.is

pub returns-in-HighEscape : goal.returns-in-HighEscape
returns-in-HighEscape c = rw c.in-HighEscape.is

pub returns-in-Low : goal.returns-in-Low
returns-in-Low c = rw c.in-Low.is
