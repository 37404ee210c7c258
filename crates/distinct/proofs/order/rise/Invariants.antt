-- `distinct::rise` meets its contract.
use Rattle.distinct.specs.Rising.{Rising}
use Rattle.distinct.specs.laws.Rising.{rising_start, rising_more, rising_fewer}
use Rattle.distinct.specs.Listed.{word_at}
use native.Mathlib.Omega.{arith}
use Prim.Native.Nat.{◌+◌, ◌-◌, ◌^◌, ◌<◌}
use borrow.Author.Rules.{rules}
use Rattle.distinct.proofs.order.rise.Given as goal

abbrev pub invariant-loop-i : goal.invariant-loop-i
invariant-loop-i g l = Rising (word_at g.E.Encoding.encoding l.s l.from l.to) l.order (l.i + 1) × (l.i < 2 ^ 64 - 1)

abbrev pub decreases-loop-i : goal.decreases-loop-i
decreases-loop-i g l = l.n - l.i
