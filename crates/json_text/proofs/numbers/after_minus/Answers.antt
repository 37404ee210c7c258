-- `json_text::after_minus` meets its contract. Assumes nothing.
use Rattle.octets.specs.laws.Pick.{branching}
use Rattle.json_text.proofs.numbers.after_minus.Goals as goal

pub returns-then-b-eq48 : goal.returns-then-b-eq48
returns-then-b-eq48 c = search branching

pub one_digit-requires : goal.one_digit-requires
one_digit-requires c = search branching

pub returns : goal.returns
returns c = search branching
