-- `times::date_time::moment_from` meets its contract.
use Rattle.std.proofs.Common.{◌∙◌, ap}
use Rattle.times.specs.DateAlong.{day_of}
use Rattle.times.specs.TimeAlong.{clock_of}
use Rattle.times.specs.DateTimeAlong.{join_time}
use Rattle.times.specs.laws.DateTimeAlong.{moment_day, moment_none}
use Rattle.times.proofs.date_time.moment_from.Goals as goal

pub returns-in_err-date : goal.returns-in_err-date
returns-in_err-date c = rw c.from_residual.ensures (moment_none _ _ (c.day_from.ensures ∙ ap day_of c.in_err-date.was))

pub returns-in_err-time : goal.returns-in_err-time
unfolding join_time
returns-in_err-time c = rw c.from_residual-in_err-time.ensures (moment_day _ _ (c.day_from.ensures ∙ ap day_of c.in_ok-date.was) (c.clock_from.ensures ∙ ap clock_of c.in_err-time.was))

pub returns : goal.returns
unfolding join_time
returns c = moment_day _ _ (c.day_from.ensures ∙ ap day_of c.in_ok-date.was) (c.clock_from.ensures ∙ ap clock_of c.in_ok-time.was)
