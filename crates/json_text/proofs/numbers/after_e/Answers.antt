-- `json_text::after_e` meets its contract. Assumes nothing.
use Rattle.octets.specs.laws.Pick.{branching}
use Rattle.json_text.proofs.numbers.after_e.Goals as goal

pub is_sign-requires : goal.is_sign-requires
is_sign-requires c = search branching

pub returns-then-is_sign : goal.returns-then-is_sign
returns-then-is_sign c = search branching

pub one_digit-requires : goal.one_digit-requires
one_digit-requires c = search branching

pub returns : goal.returns
returns c = search branching
