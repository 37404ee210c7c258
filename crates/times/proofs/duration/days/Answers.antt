-- `times::duration::days` meets its contract.
use Rattle.times.specs.laws.DurationAt.{counting}
use Rattle.times.specs.Duration.{dur_date}
use Rattle.times.proofs.duration.days.Goals as goal

pub returns-then-a-eq-UPPER_D : goal.returns-then-a-eq-UPPER_D
unfolding dur_date
returns-then-a-eq-UPPER_D g c = search counting

pub returns-else-a-eq-UPPER_D : goal.returns-else-a-eq-UPPER_D
unfolding dur_date
returns-else-a-eq-UPPER_D g c = search counting

pub returns-in-None : goal.returns-in-None
unfolding dur_date
returns-in-None g c = search counting
