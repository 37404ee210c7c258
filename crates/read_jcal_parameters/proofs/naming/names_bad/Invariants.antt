-- `read_jcal_parameters::naming::names_bad` meets its contract.
use Prim.Native.Nat.{◌-◌}
use lib.ListN.{length}
use Rattle.octets.specs.Lists.{any_one}
use Rattle.jcal.specs.Property.{is_bad_parameter}
use Rattle.read_jcal_parameters.specs.laws.Shapes.{Walking}
use Rattle.read_jcal_parameters.proofs.naming.names_bad.Given as goal

abbrev pub invariant-loop-m : goal.invariant-loop-m
invariant-loop-m l = Walking (any_one is_bad_parameter) l.s l.from l.c

abbrev pub decreases-loop-m : goal.decreases-loop-m
decreases-loop-m l = length l.s - l.c
