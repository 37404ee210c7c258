-- `read_jcal_parameters::apart::is_twice` meets its contract.
use Prim.Native.Nat.{◌-◌}
use lib.ListN.{length}
use Rattle.read_jcal_parameters.specs.laws.Apart.{Behind}
use Rattle.read_jcal_parameters.proofs.apart.is_twice.Given as goal

abbrev pub invariant-loop-m : goal.invariant-loop-m
invariant-loop-m l = Behind l.s l.from l.c

abbrev pub decreases-loop-m : goal.decreases-loop-m
decreases-loop-m l = length l.s - l.c
