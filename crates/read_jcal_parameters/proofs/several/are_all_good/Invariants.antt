-- `read_jcal_parameters::several::are_all_good` meets its contract.
use Prim.Native.Nat.{◌-◌}
use lib.ListN.{length}
use Rattle.read_jcal_parameters.specs.laws.Values.{Goods}
use Rattle.read_jcal_parameters.proofs.several.are_all_good.Given as goal

abbrev pub invariant-loop-kind : goal.invariant-loop-kind
invariant-loop-kind l = Goods l.edition l.q l.s l.at l.c

abbrev pub decreases-loop-kind : goal.decreases-loop-kind
decreases-loop-kind l = length l.s - l.c
