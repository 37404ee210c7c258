-- `read_jcal_parameters::apart::by_rounds` meets its contract.
use mathlib.Core.Path.{◌≡◌}
use Prim.Native.Nat.{◌-◌}
use lib.ListN.{length}
use Rattle.read_jcal_parameters.specs.laws.Apart.{Parting}
use Rattle.read_jcal_parameters.proofs.apart.by_rounds.Given as goal

abbrev pub invariant-loop-end : goal.invariant-loop-end
invariant-loop-end l = Parting l.s l.from l.c × (length l.places ≡ length l.initial.places)

abbrev pub decreases-loop-end : goal.decreases-loop-end
decreases-loop-end l = length l.s - l.c
