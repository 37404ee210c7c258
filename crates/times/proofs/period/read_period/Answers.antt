-- `times::period::read_period` meets its contract.
use Rattle.std.proofs.Common.{◌∙◌, ap}
use Rattle.octets.specs.Reading.{and_then}
use Rattle.times.specs.DateTimeAlong.{moment_of}
use Rattle.times.specs.laws.PeriodAt.{period_lost, period_uncut, period_unstarted, period_started}
use Rattle.times.proofs.period.read_period.Goals as goal

pub returns-in_err-walk : goal.returns-in_err-walk
returns-in_err-walk g c = rw c.from_residual.ensures (period_lost c.follow_date_time.ensures c.in_err-walk.was)

pub returns-in_err-cut : goal.returns-in_err-cut
returns-in_err-cut g c = rw c.from_residual-in_err-cut.ensures (period_uncut c.follow_date_time.ensures c.in_ok-walk.was c.slash_at.ensures c.in_err-cut.was)

pub returns-in_err-start : goal.returns-in_err-start
unfolding and_then
returns-in_err-start g c = rw c.from_residual-in_err-start.ensures (period_unstarted c.follow_date_time.ensures c.in_ok-walk.was c.slash_at.ensures c.in_ok-cut.was (c.moment_from.ensures ∙ ap moment_of c.in_err-start.was))

pub returns : goal.returns
unfolding and_then
returns g c = period_started c.follow_date_time.ensures c.in_ok-walk.was c.slash_at.ensures c.in_ok-cut.was (c.moment_from.ensures ∙ ap moment_of c.in_ok-start.was) c.period_from.ensures
