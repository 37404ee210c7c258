-- `read_text_parameters::read_parameters` meets its contract.
use Prim.Native.Nat.{◌*◌, ◌-◌}
use lib.ListN.{length}
use Rattle.read_text_parameters.specs.laws.Walking.{Stepping}
use Rattle.read_text_parameters.proofs.walk.read_parameters.Given as goal

abbrev pub invariant-loop-a : goal.invariant-loop-a
invariant-loop-a g l = Stepping l.edition l.row g.E.Encoding.encoding l.s l.e l.c l.n

abbrev pub decreases-loop-a : goal.decreases-loop-a
decreases-loop-a g l = 4 * length l.s - l.c
