-- `times::follow::tallied` meets its contract.
use Rattle.octets.specs.laws.Pick.{branching}
use Rattle.times.specs.Pattern.{tally}
use Rattle.times.proofs.follow.tallied.Goals as goal

pub returns-then-k-eq-ZERO : goal.returns-then-k-eq-ZERO
unfolding tally
returns-then-k-eq-ZERO c = rw (← c.digit_of.ensures.0) (search branching)

pub returns : goal.returns
unfolding tally
returns c = search branching
