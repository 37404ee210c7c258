-- `distinct::make_heap` meets its contract.
use mathlib.Core.Path.{◌≡◌}
use lib.ListN.{length}
use borrow.Author.Rules.{rules}
use Rattle.distinct.proofs.heap.make_heap.Given as goal

abbrev pub invariant-loop-i : goal.invariant-loop-i
invariant-loop-i g l = length l.order ≡ length l.initial.order

abbrev pub decreases-loop-i : goal.decreases-loop-i
decreases-loop-i g l = l.i
