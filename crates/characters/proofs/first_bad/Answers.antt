-- `characters::first_bad` meets its contract.
use Prim.Native.Nat.{◌*◌, ◌-◌}
use native.Mathlib.Omega.{arith}
use lib.ListN.{length}
use Rattle.characters.specs.laws.Judging.{Judging, judging_start, judging_on, judging_more, judging_end}
use borrow.Author.Rules.{rules}
use Rattle.characters.proofs.first_bad.Goals as goal

pub loop-c-init : goal.loop-c-init
loop-c-init g c = judging_start _ _ c.at_start-st.ensures

pub overflow_add-i : goal.overflow_add-i
overflow_add-i g c = let k = judging_on c.loop-c.invariant c.unit-x.ensures c.if-x-lt-END.true in omega (arith, k, c.loop-c.invariant.count)

pub loop-c-smaller : goal.loop-c-smaller
loop-c-smaller g c = omega (arith, c.unit-x.ensures.moved, c.unit-x.ensures.inside, c.if-x-lt-END.true)

pub loop-c-preserved : goal.loop-c-preserved
loop-c-preserved g c = judging_more c.loop-c.invariant c.unit-x.ensures c.if-x-lt-END.true c.read-st.ensures

pub returns-else-x-lt-END : goal.returns-else-x-lt-END
returns-else-x-lt-END g c = judging_end c.loop-c.invariant c.unit-x.ensures c.if-x-lt-END.false c.end.ensures
