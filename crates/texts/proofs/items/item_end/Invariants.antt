-- `texts::item_end` meets its contract.
use Prim.Native.Nat.{◌-◌, ◌*◌}
use lib.ListN.{length}
use Rattle.texts.specs.laws.Items.{Walking}
use Rattle.texts.proofs.items.item_end.Given as goal

abbrev pub invariant-loop-t : goal.invariant-loop-t
invariant-loop-t g l = Walking l.sep g.E.Encoding.encoding l.s l.at l.after l.c

abbrev pub decreases-loop-t : goal.decreases-loop-t
decreases-loop-t g l = 4 * length l.s - l.c
