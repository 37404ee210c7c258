-- `times::offset::read_utc_offset` meets its contract.
use mathlib.Core.Path.{◌∙◌}
use Rattle.times.specs.laws.OffsetAlong.{offset_minutes, offset_seconds, offset_lost}
use Rattle.times.proofs.offset.read_utc_offset.Goals as goal

pub returns-in-Some : goal.returns-in-Some
returns-in-Some g c = offset_minutes c.args.xcal c.follow_minutes.ensures c.minus_at-negative.ensures c.in-Some.is ∙ c.shift_from.ensures

pub returns-in_err-six : goal.returns-in_err-six
returns-in_err-six g c = rw c.from_residual.ensures (offset_lost c.args.xcal c.follow_minutes.ensures c.minus_at-negative.ensures c.follow_seconds.ensures c.in_default.is c.in_err-six.was)

pub returns : goal.returns
returns g c = offset_seconds c.args.xcal c.follow_minutes.ensures c.minus_at-negative.ensures c.follow_seconds.ensures c.in_default.is c.in_ok-six.was ∙ c.shift_from-2.ensures
