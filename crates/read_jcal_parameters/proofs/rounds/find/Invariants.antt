-- `read_jcal_parameters::rounds::find` meets its contract.
use Prim.Native.Nat.{◌-◌, ◌≤◌}
use Rattle.read_jcal_parameters.proofs.rounds.find.Given as goal

abbrev pub invariant-loop-low : goal.invariant-loop-low
invariant-loop-low l = (l.low ≤ l.high) × (l.high ≤ l.n)

abbrev pub decreases-loop-low : goal.decreases-loop-low
decreases-loop-low l = l.high - l.low
