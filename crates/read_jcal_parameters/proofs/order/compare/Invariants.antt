-- `read_jcal_parameters::order::compare` meets its contract.
use mathlib.Core.Path.{◌≡◌}
use Prim.Native.Nat.{◌*◌, ◌-◌}
use lib.ListN.{length}
use Rattle.source.specs.Source.{rest}
use Rattle.distinct.specs.Order.{order}
use Rattle.read_jcal_parameters.proofs.order.compare.Given as goal

abbrev pub invariant-loop-x : goal.invariant-loop-x
invariant-loop-x l = order (rest 3 l.s l.a) (rest 3 l.s l.b) ≡ order (rest 3 l.s l.c) (rest 3 l.s l.d)

abbrev pub decreases-loop-x : goal.decreases-loop-x
decreases-loop-x l = 4 * length l.s - l.c
