-- `json_text::exponent_or_end` meets its contract. Assumes nothing.
use Rattle.octets.specs.laws.Pick.{branching}
use Rattle.json_text.proofs.numbers.exponent_or_end.Goals as goal

pub is_e-requires : goal.is_e-requires
is_e-requires c = search branching

pub returns-then-is_e : goal.returns-then-is_e
returns-then-is_e c = search branching

pub after_value-requires : goal.after_value-requires
after_value-requires c = search branching

pub returns : goal.returns
returns c = search branching
