-- `times::follow::follow` meets its contract.
use Prim.Native.Nat.{◌-◌}
use lib.ListN.{length}
use Rattle.times.specs.laws.Followed.{Following}
use Rattle.times.proofs.follow.follow.Given as goal

abbrev pub invariant-loop-i : goal.invariant-loop-i
invariant-loop-i g l = Following l.p l.exact g.E.Encoding.encoding l.s l.at l.number l.c l.i

abbrev pub decreases-loop-i : goal.decreases-loop-i
decreases-loop-i g l = length l.p - l.i
