-- `numbers::numeral::worth` meets its contract.
use Rattle.std.proofs.Common.{arith, sym, ◌∙◌}
use Rattle.octets.specs.laws.Pick.{within_range}
use Rattle.numbers.specs.laws.Numeral.{worth_end, worth_none, worth_more, worth_much, fronts_byte, fronts_end}
use Rattle.numbers.proofs.numeral.worth.Goals as goal

pub returns-then-t-eq-END : goal.returns-then-t-eq-END
returns-then-t-eq-END g c = c.loop-t.invariant.1 ∙ worth_end _ _ (fronts_end c.front_unit-t.ensures c.if-t-eq-END.true) c.loop-t.invariant.0

pub returns-then-not-is_digit : goal.returns-then-not-is_digit
returns-then-not-is_digit g c = c.loop-t.invariant.1 ∙ worth_none _ _ (fronts_byte c.front_unit-t.ensures c.if-t-eq-END.false) (sym c.is_digit.ensures ∙ c.if-not-is_digit.true)

pub overflow_sub-v : goal.overflow_sub-v
overflow_sub-v g c = omega (arith, within_range 48 57 _ (sym c.is_digit.ensures ∙ c.if-not-is_digit.false))

pub returns-then-most-v : goal.returns-then-most-v
returns-then-most-v g c = c.loop-t.invariant.1 ∙ worth_much _ _ (fronts_byte c.front_unit-t.ensures c.if-t-eq-END.false) (sym c.is_digit.ensures ∙ c.if-not-is_digit.false) c.if-most-v.true

pub loop-t-preserved : goal.loop-t-preserved
loop-t-preserved g c = (c.if-most-v.false, c.loop-t.invariant.1 ∙ worth_more _ _ (fronts_byte c.front_unit-t.ensures c.if-t-eq-END.false) (sym c.is_digit.ensures ∙ c.if-not-is_digit.false))
