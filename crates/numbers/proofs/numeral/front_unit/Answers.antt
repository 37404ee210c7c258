-- `numbers::numeral::front_unit` meets its contract.
use Rattle.std.proofs.Common.{rules}
use Rattle.numbers.specs.laws.Numeral.{front_all, front_byte, front_letter}
use Rattle.octets.specs.laws.Pick.{flag_yes, flag_no}
use Rattle.numbers.proofs.numeral.front_unit.Goals as goal
use Rattle.numbers.proofs.numeral.front_unit.Goals.{else-letters-via-then-letters+else-is_alpha, else-letters-via-else-letters}

pub returns-then-is_alpha : goal.returns-then-is_alpha
returns-then-is_alpha g c = front_letter c.unit-t.ensures c.if-letters.true (flag_yes _ _ c.is_alpha.ensures c.if-is_alpha.true) (search rules)

pub returns : goal.returns
returns g c =
    elim c.else-letters.branch [
      | else-letters-via-then-letters+else-is_alpha w ↦ front_byte c.unit-t.ensures w.if-letters.true (flag_no _ _ w.is_alpha.ensures w.if-is_alpha.false)
      | else-letters-via-else-letters w ↦ front_all c.unit-t.ensures w.if-letters.false
    ]
