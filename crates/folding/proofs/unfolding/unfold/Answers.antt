-- `folding::unfold` meets its contract.
use Prim.Native.Nat.{◌-◌}
use lib.ListN.{length}
use Rattle.folding.proofs.Kept.{Unfolding, unfoldings}
use Rattle.folding.proofs.unfolding.unfold.Goals as goal

pub loop-at-init : goal.loop-at-init
loop-at-init c = search unfoldings

pub fold_at-requires : goal.fold_at-requires
fold_at-requires c = search unfoldings

pub overflow_add-at : goal.overflow_add-at
overflow_add-at c = search unfoldings

pub loop-at-smaller-then-fold_at : goal.loop-at-smaller-then-fold_at
loop-at-smaller-then-fold_at c = search unfoldings

pub loop-at-preserved-then-fold_at : goal.loop-at-preserved-then-fold_at
loop-at-preserved-then-fold_at c = search unfoldings

pub bounds-s-at : goal.bounds-s-at
bounds-s-at c = search unfoldings

pub bounds-work-n : goal.bounds-work-n
bounds-work-n c = search unfoldings

pub overflow_add-n : goal.overflow_add-n
overflow_add-n c = search unfoldings

pub overflow_add-at-else-fold_at : goal.overflow_add-at-else-fold_at
overflow_add-at-else-fold_at c = search unfoldings

pub loop-at-smaller : goal.loop-at-smaller
loop-at-smaller c = search unfoldings

pub loop-at-preserved : goal.loop-at-preserved
loop-at-preserved c = search unfoldings

pub shape_of-work : goal.shape_of-work
shape_of-work c = search unfoldings

pub returns : goal.returns
returns c = search unfoldings
