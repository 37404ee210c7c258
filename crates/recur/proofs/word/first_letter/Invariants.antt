-- `recur::first_letter` meets its contract.
use Rattle.recur.specs.laws.Fits.{Lettered}
use Prim.Native.Nat.{◌-◌, ◌*◌}
use lib.ListN.{length}
use Rattle.recur.proofs.word.first_letter.Given as goal

abbrev pub invariant-loop-t : goal.invariant-loop-t
invariant-loop-t g l = Lettered g.E.Encoding.encoding l.s l.at l.c

abbrev pub decreases-loop-t : goal.decreases-loop-t
decreases-loop-t g l = 4 * length l.s - l.c
