-- `read_jcal_parameters::rounds::found_end` meets its contract.
use Prim.Native.Nat.{◌-◌}
use lib.ListN.{length}
use Rattle.read_jcal_parameters.specs.Rounds.{Found}
use Rattle.read_jcal_parameters.proofs.rounds.found_end.Given as goal

abbrev pub invariant-loop-m : goal.invariant-loop-m
invariant-loop-m l = Found l.s l.places l.n l.from l.c

abbrev pub decreases-loop-m : goal.decreases-loop-m
decreases-loop-m l = length l.s - l.c
