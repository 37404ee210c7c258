-- `json_text::take_unit` meets its contract. Assumes nothing.
use Rattle.octets.specs.laws.Pick.{branching}
use Rattle.json_text.proofs.strings.take_unit.Goals as goal

pub is_high-requires : goal.is_high-requires
is_high-requires c = search branching

pub returns-then-is_high : goal.returns-then-is_high
returns-then-is_high c = search branching

pub named_bad-requires : goal.named_bad-requires
named_bad-requires c = search branching

pub returns-then-named_bad : goal.returns-then-named_bad
returns-then-named_bad c = search branching

pub returns : goal.returns
returns c = search branching
