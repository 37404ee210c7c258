-- `json_text::take_low` meets its contract. Assumes nothing.
use Rattle.octets.specs.laws.Pick.{branching}
use Rattle.json_text.proofs.strings.take_low.Goals as goal

pub is_low-requires : goal.is_low-requires
is_low-requires c = search branching

pub returns-then-is_low : goal.returns-then-is_low
returns-then-is_low c = search branching

pub returns : goal.returns
returns c = search branching
