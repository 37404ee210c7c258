-- `names::is_cased` meets its contract.
use Prim.Native.Nat.{◌-◌}
use lib.ListN.{length}
use Rattle.names.specs.laws.Runs.{Comparing}
use Rattle.names.proofs.is_cased.Given as goal

abbrev pub invariant-loop-i : goal.invariant-loop-i
invariant-loop-i g l = Comparing l.k g.E.Encoding.encoding l.s l.at l.w l.c l.i

abbrev pub decreases-loop-i : goal.decreases-loop-i
decreases-loop-i g l = length l.w - l.i
