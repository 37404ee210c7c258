-- `recur::number::numeral_of` meets its contract.
use Rattle.numbers.specs.laws.Numeral.{fronts_byte, fronts_end}
use Rattle.recur.specs.laws.Numeral.{numeral_none, numeral_bad, numeral_low, numeral_some}
use Rattle.recur.proofs.number.numeral_of.Goals as goal

pub returns-then-t-eq-END : goal.returns-then-t-eq-END
returns-then-t-eq-END g c = numeral_none _ _ (fronts_end c.front_unit-t.ensures c.if-t-eq-END.true)

pub returns-in_err-n : goal.returns-in_err-n
returns-in_err-n g c = rw c.from_residual.ensures (numeral_bad _ _ (fronts_byte c.front_unit-t.ensures c.if-t-eq-END.false) c.worth.ensures c.in_err-n.was)

pub returns-then-n-lo : goal.returns-then-n-lo
returns-then-n-lo g c = numeral_low _ _ (fronts_byte c.front_unit-t.ensures c.if-t-eq-END.false) c.worth.ensures c.in_ok-n.was c.if-n-lo.true

pub returns : goal.returns
returns g c = numeral_some _ _ (fronts_byte c.front_unit-t.ensures c.if-t-eq-END.false) c.worth.ensures c.in_ok-n.was c.if-n-lo.false
