-- `times::duration::is_unsigned` meets its contract.
use Rattle.times.specs.laws.DurationAt.{counting}
use Rattle.times.specs.Duration.{unsigned_duration}
use Rattle.times.proofs.duration.is_unsigned.Goals as goal

pub returns-then-a-eq-UPPER_P : goal.returns-then-a-eq-UPPER_P
unfolding unsigned_duration
returns-then-a-eq-UPPER_P g c = search counting

pub returns-else-a-eq-UPPER_P : goal.returns-else-a-eq-UPPER_P
unfolding unsigned_duration
returns-else-a-eq-UPPER_P g c = search counting
