-- `times::duration::digits` meets its contract.
use Rattle.times.specs.laws.DurationAt.{Running}
use Prim.Native.Nat.{◌*◌, ◌-◌}
use lib.ListN.{length}
use Rattle.times.proofs.duration.digits.Given as goal

abbrev pub invariant-loop-a : goal.invariant-loop-a
invariant-loop-a g l = Running l.exact g.E.Encoding.encoding l.s l.at l.any l.c

abbrev pub decreases-loop-a : goal.decreases-loop-a
decreases-loop-a g l = 4 * length l.s - l.c
