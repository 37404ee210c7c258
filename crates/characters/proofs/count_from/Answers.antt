-- `characters::count_from` meets its contract.
use Prim.Native.Nat.{◌*◌, ◌-◌}
use native.Mathlib.Omega.{arith}
use lib.ListN.{length}
use Rattle.characters.specs.laws.Counting.{Counting, counting_start, counting_on, counting_more, counting_end, counting_less}
use borrow.Author.Rules.{rules}
use Rattle.characters.proofs.count_from.Goals as goal

pub loop-x-init : goal.loop-x-init
loop-x-init g c = counting_start _ _ _

pub returns-then-x-eq-END : goal.returns-then-x-eq-END
returns-then-x-eq-END g c = counting_end c.loop-x.invariant c.unit-x.ensures c.if-x-eq-END.true

pub overflow_add-n : goal.overflow_add-n
overflow_add-n g c = let k = counting_on c.loop-x.invariant c.unit-x.ensures c.if-x-eq-END.false in omega (arith, k, c.loop-x.invariant.count)

pub loop-x-smaller : goal.loop-x-smaller
loop-x-smaller g c = counting_less c.loop-x.invariant c.unit-x.ensures c.if-x-eq-END.false

pub loop-x-preserved : goal.loop-x-preserved
loop-x-preserved g c = counting_more c.loop-x.invariant c.unit-x.ensures c.if-x-eq-END.false
