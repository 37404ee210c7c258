-- `recur::is_short` meets its contract.
use Rattle.recur.specs.laws.Numeral.{Passed}
use Prim.Native.Nat.{◌-◌, ◌*◌}
use lib.ListN.{length}
use Rattle.recur.proofs.number.is_short.Given as goal

abbrev pub invariant-loop-t : goal.invariant-loop-t
invariant-loop-t g l = Passed l.d l.letters g.E.Encoding.encoding l.s l.at l.c l.i

abbrev pub decreases-loop-t : goal.decreases-loop-t
decreases-loop-t g l = 4 * length l.s - l.c
