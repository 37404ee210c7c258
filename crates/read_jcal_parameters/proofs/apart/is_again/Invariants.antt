-- `read_jcal_parameters::apart::is_again` meets its contract.
use Prim.Native.Nat.{◌-◌}
use lib.ListN.{length}
use Rattle.read_json.specs.TreeAt.{string_at}
use Rattle.read_jcal_parameters.specs.laws.Apart.{Seeking}
use Rattle.read_jcal_parameters.proofs.apart.is_again.Given as goal

abbrev pub invariant-loop-m : goal.invariant-loop-m
invariant-loop-m l = Seeking (string_at l.s l.place) l.s l.from l.c

abbrev pub decreases-loop-m : goal.decreases-loop-m
decreases-loop-m l = length l.s - l.c
