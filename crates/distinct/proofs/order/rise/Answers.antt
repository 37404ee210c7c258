-- `distinct::rise` meets its contract.
use Rattle.distinct.specs.Rising.{Rising}
use Rattle.distinct.specs.laws.Rising.{rising_start, rising_more, rising_fewer}
use Rattle.distinct.specs.Listed.{word_at}
use native.Mathlib.Omega.{arith}
use Prim.Native.Nat.{◌+◌, ◌-◌, ◌^◌, ◌<◌}
use borrow.Author.Rules.{rules}
use Rattle.distinct.proofs.order.rise.Goals as goal

pub loop-i-init : goal.loop-i-init
loop-i-init g c = (rising_start, omega arith)

pub loop-i-preserved : goal.loop-i-preserved
loop-i-preserved g c = (rising_more c.loop-i.i c.loop-i.invariant.0 c.number_at.ensures c.number_at-in-loop-i.ensures c.compare-k.ensures (search rules), omega arith)

pub returns-else-k-eq1 : goal.returns-else-k-eq1
returns-else-k-eq1 g c = c.loop-i.invariant.0

pub returns : goal.returns
returns g c = rising_fewer c.loop-i.invariant.0 (omega arith)
