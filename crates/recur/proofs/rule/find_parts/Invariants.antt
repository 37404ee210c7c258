-- `recur::find_parts` meets its contract.
use Prim.Native.Nat.{◌-◌}
use lib.ListN.{length}
use Rattle.recur.specs.laws.NotedLaws.{Walked}
use Rattle.recur.proofs.rule.find_parts.Given as goal

abbrev pub invariant-loop-begins : goal.invariant-loop-begins
invariant-loop-begins g l = Walked g.E.Encoding.encoding l.s l.at l.begins l.c

abbrev pub decreases-loop-begins : goal.decreases-loop-begins
decreases-loop-begins g l = length l.s - l.c
