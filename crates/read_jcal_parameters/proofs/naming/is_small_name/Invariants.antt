-- `read_jcal_parameters::naming::is_small_name` meets its contract.
use Prim.Native.Nat.{◌*◌, ◌-◌}
use lib.ListN.{length}
use Rattle.read_jcal_parameters.specs.laws.Names.{Smalls}
use Rattle.read_jcal_parameters.proofs.naming.is_small_name.Given as goal

abbrev pub invariant-loop-n : goal.invariant-loop-n
invariant-loop-n l = Smalls l.s l.at l.c

abbrev pub decreases-loop-n : goal.decreases-loop-n
decreases-loop-n l = 4 * length l.s - l.c
