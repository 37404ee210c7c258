-- `times::date::read_date` meets its contract.
use Rattle.octets.specs.laws.Pick.{flag_yes, flag_no}
use mathlib.Core.Path.{◌∙◌}
use Rattle.calendar.specs.Calendar.{format_of}
use Rattle.times.specs.laws.DateAlong.{date_ended, date_longer, date_lost}
use Rattle.times.proofs.date.read_date.Goals as goal

pub returns-in_err-walk : goal.returns-in_err-walk
returns-in_err-walk g c = rw c.from_residual.ensures (date_lost (format_of c.args.xcal) c.follow_date.ensures c.in_err-walk.was)

pub returns-then-ended : goal.returns-then-ended
returns-then-ended g c = date_ended (format_of c.args.xcal) c.follow_date.ensures c.in_ok-walk.was (flag_yes _ _ c.ended.ensures c.if-ended.true) ∙ c.day_from.ensures

pub returns-else-ended : goal.returns-else-ended
returns-else-ended g c = date_longer (format_of c.args.xcal) c.follow_date.ensures c.in_ok-walk.was (flag_no _ _ c.ended.ensures c.if-ended.false)
