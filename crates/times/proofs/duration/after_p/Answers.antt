-- `times::duration::after_p` meets its contract.
use Rattle.times.specs.laws.DurationAt.{counting}
use Rattle.times.proofs.duration.after_p.Goals as goal

pub returns-then-after_t : goal.returns-then-after_t
returns-then-after_t g c = search counting

pub returns-else-after_t : goal.returns-else-after_t
returns-else-after_t g c = search counting
