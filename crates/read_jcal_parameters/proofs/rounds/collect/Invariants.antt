-- `read_jcal_parameters::rounds::collect` meets its contract.
use mathlib.Core.Path.{◌≡◌}
use Prim.Native.Nat.{◌-◌, ◌≤◌}
use lib.ListN.{length}
use Rattle.read_jcal_parameters.proofs.rounds.collect.Given as goal

abbrev pub invariant-loop-k : goal.invariant-loop-k
invariant-loop-k l = (length l.places ≡ length l.initial.places) × (l.k ≤ 2048)

abbrev pub decreases-loop-k : goal.decreases-loop-k
decreases-loop-k l = 2048 - l.k
