-- `folding::row_end` meets its contract.
use Prim.Native.Nat.{◌-◌}
use lib.ListN.{length}
use Rattle.folding.proofs.Rowed.{Taking, takings}
use Rattle.folding.proofs.folded.row_end.Goals as goal

pub loop-j-init : goal.loop-j-init
loop-j-init c = search takings

pub bounds-s-j : goal.bounds-s-j
bounds-s-j c = search takings

pub width_of-w-requires : goal.width_of-w-requires
width_of-w-requires c = search takings

pub overflow_add-k : goal.overflow_add-k
overflow_add-k c = search takings

pub returns-then-k-w-gt75 : goal.returns-then-k-w-gt75
returns-then-k-w-gt75 c = search takings

pub overflow_add-k-else-k-w-gt75 : goal.overflow_add-k-else-k-w-gt75
overflow_add-k-else-k-w-gt75 c = search takings

pub overflow_add-j : goal.overflow_add-j
overflow_add-j c = search takings

pub loop-j-smaller : goal.loop-j-smaller
loop-j-smaller c = search takings

pub loop-j-preserved : goal.loop-j-preserved
loop-j-preserved c = search takings

pub returns : goal.returns
returns c = search takings
