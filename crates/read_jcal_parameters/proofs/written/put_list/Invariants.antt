-- `read_jcal_parameters::written::put_list` meets its contract.
use mathlib.Core.Bool.{false}
use Prim.Native.Nat.{◌-◌}
use lib.ListN.{length}
use Rattle.read_jcal_parameters.specs.Shapes.{list_at}
use Rattle.read_jcal_parameters.specs.Values.{row_at}
use Rattle.read_jcal_parameters.specs.Written.{list_shown}
use Rattle.read_jcal_parameters.specs.laws.Written.{Emits}
use Rattle.read_jcal_parameters.proofs.written.put_list.Given as goal

abbrev pub invariant-loop-c : goal.invariant-loop-c
invariant-loop-c l = Emits l.initial.out l.o (list_shown l.edition (row_at l.q) false (list_at l.s l.at)) l.out l.p (list_shown l.edition (row_at l.q) l.later (list_at l.s l.c))

abbrev pub decreases-loop-c : goal.decreases-loop-c
decreases-loop-c l = length l.s - l.c
