-- `recur::are_items` meets its contract.
use Rattle.recur.specs.laws.PieceLaws.{Left}
use Rattle.recur.specs.Pieces.{are_items}
use lib.ListN.{length}
use Prim.Native.Nat.{◌-◌}
use Rattle.recur.proofs.rule.are_items.Given as goal

abbrev pub invariant-loop-p : goal.invariant-loop-p
invariant-loop-p g l = Left (are_items l.p) 44 g.E.Encoding.encoding l.s l.at l.c

abbrev pub decreases-loop-p : goal.decreases-loop-p
decreases-loop-p g l = length l.s - l.c
