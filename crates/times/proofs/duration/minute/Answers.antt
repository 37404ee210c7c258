-- `times::duration::minute` meets its contract.
use Rattle.times.specs.laws.DurationAt.{counting}
use Rattle.times.specs.Duration.{dur_minute}
use Rattle.times.proofs.duration.minute.Goals as goal

pub returns-then-a-eq-UPPER_M : goal.returns-then-a-eq-UPPER_M
unfolding dur_minute
returns-then-a-eq-UPPER_M g c = search counting

pub returns-else-a-eq-UPPER_M : goal.returns-else-a-eq-UPPER_M
unfolding dur_minute
returns-else-a-eq-UPPER_M g c = search counting

pub returns-in-None : goal.returns-in-None
unfolding dur_minute
returns-in-None g c = search counting
