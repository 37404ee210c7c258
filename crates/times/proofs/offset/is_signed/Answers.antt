-- `times::offset::is_signed` meets its contract.
use Rattle.octets.specs.laws.Pick.{branching}
use Rattle.times.proofs.offset.is_signed.Goals as goal

pub returns-then-not-negative : goal.returns-then-not-negative
returns-then-not-negative c = search branching

pub returns-else-not-negative : goal.returns-else-not-negative
returns-else-not-negative c = search branching
