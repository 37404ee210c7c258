-- `times::duration::hour` meets its contract.
use Rattle.times.specs.laws.DurationAt.{counting}
use Rattle.times.specs.Duration.{dur_hour}
use Rattle.times.proofs.duration.hour.Goals as goal

pub returns-then-a-eq-UPPER_H : goal.returns-then-a-eq-UPPER_H
unfolding dur_hour
returns-then-a-eq-UPPER_H g c = search counting

pub returns-else-a-eq-UPPER_H : goal.returns-else-a-eq-UPPER_H
unfolding dur_hour
returns-else-a-eq-UPPER_H g c = search counting

pub returns-in-None : goal.returns-in-None
unfolding dur_hour
returns-in-None g c = search counting
