-- `recur::byte_end` meets its contract.
use Rattle.recur.specs.laws.PieceLaws.{Ending}
use lib.ListN.{length}
use Prim.Native.Nat.{◌-◌}
use Rattle.recur.proofs.rule.byte_end.Given as goal

abbrev pub invariant-loop-t : goal.invariant-loop-t
invariant-loop-t g l = Ending l.k g.E.Encoding.encoding l.s l.at l.c

abbrev pub decreases-loop-t : goal.decreases-loop-t
decreases-loop-t g l = length l.s - l.c
