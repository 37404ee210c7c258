-- `times::time::zone_at` meets its contract.
use Rattle.octets.specs.laws.Pick.{flag_no}
use Rattle.times.specs.laws.TimeAlong.{zone_more, zone_other, zoning}
use Rattle.times.proofs.time.zone_at.Goals.{else-a-eq-UPPER_Z-via-then-a-eq-UPPER_Z+else-ended, else-a-eq-UPPER_Z-via-else-a-eq-UPPER_Z}
use Rattle.times.proofs.time.zone_at.Goals as goal

pub returns-then-a-eq-END : goal.returns-then-a-eq-END
returns-then-a-eq-END g c = search zoning

pub returns-then-ended : goal.returns-then-ended
returns-then-ended g c = search zoning

pub returns : goal.returns
returns g c = elim c.else-a-eq-UPPER_Z.branch [
  | else-a-eq-UPPER_Z-via-then-a-eq-UPPER_Z+else-ended w ↦ zone_more c.letter-a.ensures w.if-a-eq-UPPER_Z.true (flag_no _ _ w.ended.ensures w.if-ended.false)
  | else-a-eq-UPPER_Z-via-else-a-eq-UPPER_Z w ↦ zone_other c.letter-a.ensures c.if-a-eq-END.false w.if-a-eq-UPPER_Z.false
]
