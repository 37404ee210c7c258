-- `read_jcal_value::all_read` meets its contract.
use Prim.Native.Nat.{◌-◌}
use lib.ListN.{length}
use Rattle.read_jcal_value.specs.Values.{one_at}
use Rattle.read_jcal_value.specs.laws.Elements.{Each}
use Rattle.read_jcal_value.proofs.valued.all_read.Given as goal

abbrev pub invariant-loop-context : goal.invariant-loop-context
invariant-loop-context l = Each (one_at l.context) l.s l.from l.c

abbrev pub decreases-loop-context : goal.decreases-loop-context
decreases-loop-context l = length l.s - l.c
