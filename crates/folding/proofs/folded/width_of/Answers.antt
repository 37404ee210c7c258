-- `folding::width_of` meets its contract.
use Rattle.octets.specs.laws.Pick.{branching}
use Rattle.folding.proofs.folded.width_of.Goals as goal

pub returns-then-b-lt192 : goal.returns-then-b-lt192
returns-then-b-lt192 c = search branching

pub returns-then-b-lt224 : goal.returns-then-b-lt224
returns-then-b-lt224 c = search branching

pub returns-then-b-lt240 : goal.returns-then-b-lt240
returns-then-b-lt240 c = search branching

pub returns : goal.returns
returns c = search branching
