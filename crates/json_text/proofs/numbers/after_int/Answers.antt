-- `json_text::after_int` meets its contract. Assumes nothing.
use Rattle.octets.specs.laws.Pick.{branching}
use Rattle.json_text.proofs.numbers.after_int.Goals as goal

pub is_digit-requires : goal.is_digit-requires
is_digit-requires c = search branching

pub returns-then-is_digit : goal.returns-then-is_digit
returns-then-is_digit c = search branching

pub fraction_or_end-requires : goal.fraction_or_end-requires
fraction_or_end-requires c = search branching

pub returns : goal.returns
returns c = search branching
