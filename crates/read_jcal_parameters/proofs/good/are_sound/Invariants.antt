-- `read_jcal_parameters::good::are_sound` meets its contract.
use Prim.Native.Nat.{◌-◌}
use lib.ListN.{length}
use Rattle.octets.specs.Lists.{every}
use Rattle.read_jcal_parameters.specs.laws.Shapes.{Walking}
use Rattle.read_jcal_parameters.specs.Sound.{is_sound}
use Rattle.read_jcal_parameters.proofs.good.are_sound.Given as goal

abbrev pub invariant-loop-m : goal.invariant-loop-m
invariant-loop-m l = Walking (every (is_sound l.edition l.row l.t)) l.s l.from l.c

abbrev pub decreases-loop-m : goal.decreases-loop-m
decreases-loop-m l = length l.s - l.c
