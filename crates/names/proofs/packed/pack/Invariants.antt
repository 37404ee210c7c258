-- `names::packed::pack` meets its contract.
use Prim.Native.Nat.{◌*◌, ◌-◌}
use lib.ListN.{length}
use Rattle.names.specs.laws.Packing.{Taking}
use Rattle.names.proofs.packed.pack.Given as goal

abbrev pub invariant-loop-n : goal.invariant-loop-n
invariant-loop-n g l = Taking g.E.Encoding.encoding l.s l.at l.high l.low l.c

abbrev pub decreases-loop-n : goal.decreases-loop-n
decreases-loop-n g l = 4 * length l.s - l.c
