-- `read_text_line::carried::starts_off_name` meets its contract.
use Rattle.std.proofs.Common.{◌∙◌}
use Rattle.read_text_line.specs.laws.Carried.{off_digit, off_other}
use Rattle.read_text_line.proofs.carried.starts_off_name.Goals as goal

pub returns-then-is_digit : goal.returns-then-is_digit
returns-then-is_digit g c = c.if-is_digit.true ∙ off_digit c.unit-n.ensures c.is_digit.ensures c.if-is_digit.true

pub returns-else-is_digit : goal.returns-else-is_digit
returns-else-is_digit g c = off_other c.unit-n.ensures c.is_digit.ensures c.if-is_digit.false
