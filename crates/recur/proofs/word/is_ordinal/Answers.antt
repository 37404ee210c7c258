-- `recur::is_ordinal` meets its contract.
use Rattle.numbers.specs.laws.Numeral.{fronts_byte, fronts_end}
use Rattle.octets.specs.laws.Pick.{or_take, or_skip}
use Rattle.recur.proofs.word.is_ordinal.Goals as goal

pub returns-then-t-eq-END : goal.returns-then-t-eq-END
returns-then-t-eq-END g c = or_take _ _ (rw (fronts_end c.front_unit-t.ensures c.if-t-eq-END.true))

pub returns : goal.returns
returns g c = or_skip _ _ _ (rw (fronts_byte c.front_unit-t.ensures c.if-t-eq-END.false)) c.is_signed.ensures
