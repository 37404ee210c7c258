-- `read_jcal_value::mark_at` meets its contract.
use Prim.Native.Nat.{◌-◌}
use lib.ListN.{length}
use Rattle.read_jcal_value.specs.Number.{mark_of}
use Rattle.read_jcal_value.specs.laws.Number.{Marking}
use Rattle.read_jcal_value.proofs.number.mark_at.Given as goal

abbrev pub invariant-loop-i : goal.invariant-loop-i
invariant-loop-i l = Marking (mark_of l.point) l.s l.at l.i

abbrev pub decreases-loop-i : goal.decreases-loop-i
decreases-loop-i l = length l.s - l.i
