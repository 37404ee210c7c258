-- `times::date_time::read_date_time` meets its contract.
use Rattle.std.proofs.Common.{◌∙◌}
use Rattle.times.specs.laws.DateTimeAlong.{date_time_ended, date_time_lost}
use Rattle.times.proofs.date_time.read_date_time.Goals as goal

pub returns-in_err-walk : goal.returns-in_err-walk
returns-in_err-walk g c = rw c.from_residual.ensures (date_time_lost c.args.xcal c.follow_date_time.ensures c.in_err-walk.was)

pub returns : goal.returns
returns g c = date_time_ended c.args.xcal c.follow_date_time.ensures c.in_ok-walk.was c.zone_at.ensures ∙ c.moment_from.ensures
