-- `folding::place_of` meets its contract.
use Prim.Native.Nat.{◌-◌}
use lib.ListN.{length}
use Rattle.folding.proofs.Kept.{Left, lefts}
use Rattle.folding.proofs.unfolding.place_of.Goals as goal

pub loop-at-init : goal.loop-at-init
loop-at-init c = search lefts

pub fold_at-requires : goal.fold_at-requires
fold_at-requires c = search lefts

pub overflow_add-at : goal.overflow_add-at
overflow_add-at c = search lefts

pub loop-at-smaller-then-fold_at : goal.loop-at-smaller-then-fold_at
loop-at-smaller-then-fold_at c = search lefts

pub loop-at-preserved-then-fold_at : goal.loop-at-preserved-then-fold_at
loop-at-preserved-then-fold_at c = search lefts

pub returns-then-left-eq0 : goal.returns-then-left-eq0
returns-then-left-eq0 c = search lefts

pub overflow_sub-left : goal.overflow_sub-left
overflow_sub-left c = search lefts

pub overflow_add-at-else-fold_at : goal.overflow_add-at-else-fold_at
overflow_add-at-else-fold_at c = search lefts

pub loop-at-smaller : goal.loop-at-smaller
loop-at-smaller c = search lefts

pub loop-at-preserved : goal.loop-at-preserved
loop-at-preserved c = search lefts

pub returns : goal.returns
returns c = search lefts
