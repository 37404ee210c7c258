-- `times::offset::second_if` meets its contract.
use Rattle.octets.specs.laws.Pick.{branching}
use Rattle.times.proofs.offset.second_if.Goals as goal

pub returns-then-given : goal.returns-then-given
returns-then-given c = search branching

pub returns-else-given : goal.returns-else-given
returns-else-given c = search branching
