-- `times::date::day_from` meets its contract.
use Rattle.octets.specs.laws.Pick.{flag_yes, flag_no}
use Rattle.times.specs.laws.DateAlong.{day_found, day_missing}
use Rattle.times.proofs.date.day_from.Goals as goal

pub returns-then-is_day : goal.returns-then-is_day
returns-then-is_day c = day_found _ (flag_yes _ _ c.is_day.ensures c.if-is_day.true)

pub returns-else-is_day : goal.returns-else-is_day
returns-else-is_day c = day_missing _ (flag_no _ _ c.is_day.ensures c.if-is_day.false)
