-- `times::duration::second` meets its contract.
use Rattle.times.specs.laws.DurationAt.{counting}
use Rattle.times.specs.Duration.{dur_second}
use Rattle.times.proofs.duration.second.Goals as goal

pub returns-then-a-eq-UPPER_S : goal.returns-then-a-eq-UPPER_S
unfolding dur_second
returns-then-a-eq-UPPER_S g c = search counting

pub returns-else-a-eq-UPPER_S : goal.returns-else-a-eq-UPPER_S
unfolding dur_second
returns-else-a-eq-UPPER_S g c = search counting

pub returns-in-None : goal.returns-in-None
unfolding dur_second
returns-in-None g c = search counting
