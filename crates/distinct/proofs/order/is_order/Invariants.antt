-- `distinct::is_order` meets its contract.
use Rattle.distinct.specs.Rising.{Ranked}
use Rattle.distinct.specs.laws.Rising.{ranked_start, ranked_more, ranked_end}
use mathlib.Core.Bool.{false≢true}
use Prim.Native.Nat.{◌-◌}
use borrow.Author.Rules.{rules}
use Rattle.distinct.proofs.order.is_order.Given as goal

abbrev pub invariant-loop-p : goal.invariant-loop-p
invariant-loop-p l = Ranked l.order l.ranks l.p l.n

abbrev pub decreases-loop-p : goal.decreases-loop-p
decreases-loop-p l = l.n - l.p
