-- `json_text::after_frac` meets its contract. Assumes nothing.
use Rattle.octets.specs.laws.Pick.{branching}
use Rattle.json_text.proofs.numbers.after_frac.Goals as goal

pub is_digit-requires : goal.is_digit-requires
is_digit-requires c = search branching

pub returns-then-is_digit : goal.returns-then-is_digit
returns-then-is_digit c = search branching

pub exponent_or_end-requires : goal.exponent_or_end-requires
exponent_or_end-requires c = search branching

pub returns : goal.returns
returns c = search branching
