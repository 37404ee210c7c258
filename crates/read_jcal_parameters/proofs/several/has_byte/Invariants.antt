-- `read_jcal_parameters::several::has_byte` meets its contract.
use Prim.Native.Nat.{◌*◌, ◌-◌}
use lib.ListN.{length}
use Rattle.read_jcal_parameters.specs.laws.Values.{Holding}
use Rattle.read_jcal_parameters.proofs.several.has_byte.Given as goal

abbrev pub invariant-loop-n : goal.invariant-loop-n
invariant-loop-n l = Holding l.b l.s l.at l.c

abbrev pub decreases-loop-n : goal.decreases-loop-n
decreases-loop-n l = 4 * length l.s - l.c
