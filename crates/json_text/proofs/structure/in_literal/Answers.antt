-- `json_text::in_literal` meets its contract. Assumes nothing.
use Rattle.octets.specs.laws.Pick.{branching}
use Rattle.json_text.proofs.structure.in_literal.Goals as goal

pub overflow_cast-w : goal.overflow_cast-w
overflow_cast-w c = search branching

pub returns-then-w-eq0 : goal.returns-then-w-eq0
returns-then-w-eq0 c = search branching

pub returns-then-b-w : goal.returns-then-b-w
returns-then-b-w c = search branching

pub returns : goal.returns
returns c = search branching
