-- `read_jcal_parameters::apart::are_few` meets its contract.
use Prim.Native.Nat.{◌-◌, ◌≤◌}
use Rattle.read_jcal_parameters.proofs.apart.are_few.Given as goal

abbrev pub invariant-loop-k : goal.invariant-loop-k
invariant-loop-k l = l.k ≤ 17

abbrev pub decreases-loop-k : goal.decreases-loop-k
decreases-loop-k l = 17 - l.k
