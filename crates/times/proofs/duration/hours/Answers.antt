-- `times::duration::hours` meets its contract.
use Rattle.times.specs.laws.DurationAt.{counting}
use Rattle.times.proofs.duration.hours.Goals as goal

pub returns-then-minute : goal.returns-then-minute
returns-then-minute g c = search counting

pub returns-else-minute : goal.returns-else-minute
returns-else-minute g c = search counting
