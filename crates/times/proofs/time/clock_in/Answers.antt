-- `times::time::clock_in` meets its contract.
use Rattle.octets.specs.laws.Pick.{flag_yes, flag_no}
use Rattle.times.specs.laws.TimeAlong.{clock_found, clock_missing}
use Rattle.times.proofs.time.clock_in.Goals as goal

pub returns-then-is_hms : goal.returns-then-is_hms
returns-then-is_hms c = clock_found _ _ c.is_utc-utc.ensures (flag_yes _ _ c.is_hms.ensures c.if-is_hms.true)

pub returns-else-is_hms : goal.returns-else-is_hms
returns-else-is_hms c = clock_missing _ _ (flag_no _ _ c.is_hms.ensures c.if-is_hms.false)
