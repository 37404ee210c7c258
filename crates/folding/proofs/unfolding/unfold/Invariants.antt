-- `folding::unfold` meets its contract.
use Prim.Native.Nat.{◌-◌}
use lib.ListN.{length}
use Rattle.folding.proofs.Kept.{Unfolding, unfoldings}
use Rattle.folding.proofs.unfolding.unfold.Given as goal

abbrev pub invariant-loop-at : goal.invariant-loop-at
invariant-loop-at l = Unfolding l.s l.initial.work l.at l.n l.work

abbrev pub decreases-loop-at : goal.decreases-loop-at
decreases-loop-at l = length l.s - l.at
