-- `times::duration::after_t` meets its contract.
use Rattle.times.specs.laws.DurationAt.{counting}
use Rattle.times.specs.Duration.{dur_time}
use Rattle.times.proofs.duration.after_t.Goals as goal

pub returns-then-a-eq-UPPER_T : goal.returns-then-a-eq-UPPER_T
unfolding dur_time
returns-then-a-eq-UPPER_T g c = search counting

pub returns-else-a-eq-UPPER_T : goal.returns-else-a-eq-UPPER_T
unfolding dur_time
returns-else-a-eq-UPPER_T g c = search counting
