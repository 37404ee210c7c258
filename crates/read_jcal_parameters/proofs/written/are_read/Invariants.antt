-- `read_jcal_parameters::written::are_read` meets its contract.
use Prim.Native.Nat.{◌-◌}
use lib.ListN.{length}
use Rattle.octets.specs.Lists.{every}
use Rattle.read_jcal_parameters.specs.laws.Shapes.{Walking}
use Rattle.read_jcal_parameters.specs.Written.{is_read_member}
use Rattle.read_jcal_parameters.proofs.written.are_read.Given as goal

abbrev pub invariant-loop-m : goal.invariant-loop-m
invariant-loop-m l = Walking (every is_read_member) l.s l.from l.c

abbrev pub decreases-loop-m : goal.decreases-loop-m
decreases-loop-m l = length l.s - l.c
