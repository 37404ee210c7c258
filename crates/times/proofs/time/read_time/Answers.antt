-- `times::time::read_time` meets its contract.
use Rattle.std.proofs.Common.{◌∙◌}
use Rattle.times.specs.laws.TimeAlong.{time_ended, time_lost}
use Rattle.times.proofs.time.read_time.Goals as goal

pub returns-in_err-walk : goal.returns-in_err-walk
returns-in_err-walk g c = rw c.from_residual.ensures (time_lost c.args.xcal c.follow_time.ensures c.in_err-walk.was)

pub returns : goal.returns
returns g c = time_ended c.args.xcal c.follow_time.ensures c.in_ok-walk.was c.zone_at.ensures ∙ c.clock_from.ensures
