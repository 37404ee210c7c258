-- `times::duration::no_or_minute` meets its contract.
use Rattle.times.specs.laws.DurationAt.{counting}
use Rattle.times.proofs.duration.no_or_minute.Goals as goal

pub returns-then-ended : goal.returns-then-ended
returns-then-ended g c = search counting

pub returns-else-ended : goal.returns-else-ended
returns-else-ended g c = search counting
