-- `times::duration::weeks` meets its contract.
use Rattle.times.specs.laws.DurationAt.{counting}
use Rattle.times.specs.Duration.{dur_week}
use Rattle.times.proofs.duration.weeks.Goals as goal

pub returns-then-a-eq-UPPER_W : goal.returns-then-a-eq-UPPER_W
unfolding dur_week
returns-then-a-eq-UPPER_W g c = search counting

pub returns-else-a-eq-UPPER_W : goal.returns-else-a-eq-UPPER_W
unfolding dur_week
returns-else-a-eq-UPPER_W g c = search counting

pub returns-in-None : goal.returns-in-None
unfolding dur_week
returns-in-None g c = search counting
