-- `json_text::after_value` meets its contract. Assumes nothing.
use Rattle.octets.specs.laws.Pick.{branching}
use Rattle.json_text.proofs.structure.after_value.Goals as goal

pub is_space-requires : goal.is_space-requires
is_space-requires c = search branching

pub returns-then-is_space : goal.returns-then-is_space
returns-then-is_space c = search branching

pub separate-requires : goal.separate-requires
separate-requires c = search branching

pub returns : goal.returns
returns c = search branching
