-- `times::offset::follow_whole` meets its contract.
use Rattle.times.specs.laws.OffsetAlong.{wholly}
use Rattle.times.proofs.offset.follow_whole.Goals as goal

pub returns-in_err-walk : goal.returns-in_err-walk
returns-in_err-walk g c = search wholly

pub returns-then-ended : goal.returns-then-ended
returns-then-ended g c = search wholly

pub returns-else-ended : goal.returns-else-ended
returns-else-ended g c = search wholly
