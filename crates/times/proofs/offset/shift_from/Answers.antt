-- `times::offset::shift_from` meets its contract.
use Rattle.octets.specs.laws.Pick.{flag_yes, flag_no}
use Rattle.times.specs.laws.OffsetAlong.{offset_found, offset_zero, offset_wide}
use Rattle.times.proofs.offset.shift_from.Goals.{else-is_hms-via-then-is_hms+else-is_signed, else-is_hms-via-else-is_hms}
use Rattle.times.proofs.offset.shift_from.Goals as goal

pub returns-then-is_signed : goal.returns-then-is_signed
returns-then-is_signed c = offset_found _ _ _ c.second_if.ensures (flag_yes _ _ c.is_hms.ensures c.if-is_hms.true) (flag_yes _ _ c.is_signed.ensures c.if-is_signed.true)

pub returns : goal.returns
returns c = elim c.else-is_hms.branch [
  | else-is_hms-via-then-is_hms+else-is_signed w ↦ offset_zero _ _ _ (flag_no _ _ w.is_signed.ensures w.if-is_signed.false)
  | else-is_hms-via-else-is_hms w ↦ offset_wide _ _ _ (flag_no _ _ c.is_hms.ensures w.if-is_hms.false)
]
