-- `times::time::is_hms` meets its contract.
use Rattle.octets.specs.laws.Pick.{branching}
use Rattle.times.specs.TimeAlong.{is_hms}
use Rattle.times.proofs.time.is_hms.Goals as goal

pub returns-then-m-le59 : goal.returns-then-m-le59
unfolding is_hms
returns-then-m-le59 c = search branching

pub returns-else-m-le59 : goal.returns-else-m-le59
unfolding is_hms
returns-else-m-le59 c = search branching
