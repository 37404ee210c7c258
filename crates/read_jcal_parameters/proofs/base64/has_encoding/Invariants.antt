-- `read_jcal_parameters::base64::has_encoding` meets its contract.
use Prim.Native.Nat.{◌-◌}
use lib.ListN.{length}
use Rattle.octets.specs.Lists.{any_one}
use Rattle.read_jcal_parameters.specs.laws.Shapes.{Walking}
use Rattle.read_jcal_parameters.specs.Encoded.{is_encoded}
use Rattle.read_jcal_parameters.proofs.base64.has_encoding.Given as goal

abbrev pub invariant-loop-m : goal.invariant-loop-m
invariant-loop-m l = Walking (any_one is_encoded) l.s l.from l.c

abbrev pub decreases-loop-m : goal.decreases-loop-m
decreases-loop-m l = length l.s - l.c
