-- `json_text::begin_value` meets its contract. Assumes nothing.
use Rattle.octets.specs.laws.Pick.{branching}
use Rattle.json_text.proofs.structure.begin_value.Goals as goal

pub returns-then-b-eq34 : goal.returns-then-b-eq34
returns-then-b-eq34 c = search branching

pub returns-then-b-eq91 : goal.returns-then-b-eq91
returns-then-b-eq91 c = search branching

pub returns-then-b-eq123 : goal.returns-then-b-eq123
returns-then-b-eq123 c = search branching

pub begin_scalar-requires : goal.begin_scalar-requires
begin_scalar-requires c = search branching

pub returns : goal.returns
returns c = search branching
