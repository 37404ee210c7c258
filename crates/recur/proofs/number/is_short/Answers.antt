-- `recur::is_short` meets its contract.
use Rattle.recur.specs.laws.Numeral.{passed_start, passed_end, passed_long, passed_more, passed_less}
use native.Mathlib.Omega.{arith}
use Rattle.recur.proofs.number.is_short.Goals as goal

pub loop-t-init : goal.loop-t-init
loop-t-init g c = passed_start _ _ _ _ _

pub returns-then-t-eq-END : goal.returns-then-t-eq-END
returns-then-t-eq-END g c = passed_end c.loop-t.invariant c.front_unit-t.ensures c.if-t-eq-END.true

pub returns-then-i-d : goal.returns-then-i-d
returns-then-i-d g c = passed_long c.loop-t.invariant c.front_unit-t.ensures c.if-t-eq-END.false c.if-i-d.true

pub overflow_add-i : goal.overflow_add-i
overflow_add-i g c = omega (arith, c.loop-t.invariant.inside, c.if-i-d.false)

pub loop-t-smaller : goal.loop-t-smaller
loop-t-smaller g c = passed_less c.loop-t.invariant c.front_unit-t.ensures c.if-t-eq-END.false

pub loop-t-preserved : goal.loop-t-preserved
loop-t-preserved g c = passed_more c.loop-t.invariant c.front_unit-t.ensures c.if-t-eq-END.false c.if-i-d.false
