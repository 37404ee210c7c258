-- `times::follow::passing` meets its contract.
use Rattle.octets.specs.laws.Pick.{branching}
use Rattle.times.specs.Pattern.{passes}
use Rattle.times.proofs.follow.passing.Goals as goal

pub returns-then-k-eq-ZERO : goal.returns-then-k-eq-ZERO
unfolding passes
returns-then-k-eq-ZERO c = search branching

pub returns-then-k-eq-PLUS : goal.returns-then-k-eq-PLUS
unfolding passes
returns-then-k-eq-PLUS c = search branching

pub returns : goal.returns
unfolding passes
returns c = search branching
