-- `json_text::begin_name` meets its contract. Assumes nothing.
use Rattle.octets.specs.laws.Pick.{branching}
use Rattle.json_text.proofs.structure.begin_name.Goals as goal

pub returns-then-b-eq34 : goal.returns-then-b-eq34
returns-then-b-eq34 c = search branching

pub returns : goal.returns
returns c = search branching
