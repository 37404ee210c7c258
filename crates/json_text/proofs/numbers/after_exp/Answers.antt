-- `json_text::after_exp` meets its contract. Assumes nothing.
use Rattle.octets.specs.laws.Pick.{branching}
use Rattle.json_text.proofs.numbers.after_exp.Goals as goal

pub is_digit-requires : goal.is_digit-requires
is_digit-requires c = search branching

pub returns-then-is_digit : goal.returns-then-is_digit
returns-then-is_digit c = search branching

pub after_value-requires : goal.after_value-requires
after_value-requires c = search branching

pub returns : goal.returns
returns c = search branching
