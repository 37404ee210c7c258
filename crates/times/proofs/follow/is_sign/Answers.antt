-- `times::follow::is_sign` meets its contract.
use Rattle.octets.specs.laws.Pick.{branching}
use Rattle.times.proofs.follow.is_sign.Goals as goal

pub returns-then-u-eq-PLUS : goal.returns-then-u-eq-PLUS
returns-then-u-eq-PLUS c = search branching

pub returns-else-u-eq-PLUS : goal.returns-else-u-eq-PLUS
returns-else-u-eq-PLUS c = search branching
