-- `read_jcal_parameters::written::put_members` meets its contract.
use Prim.Native.Nat.{◌-◌}
use lib.ListN.{length}
use Rattle.read_jcal_parameters.specs.Shapes.{parameters_at}
use Rattle.read_jcal_parameters.specs.Written.{members_shown}
use Rattle.read_jcal_parameters.specs.laws.Written.{Emits}
use Rattle.read_jcal_parameters.proofs.written.put_members.Given as goal

abbrev pub invariant-loop-m : goal.invariant-loop-m
invariant-loop-m l = Emits l.initial.out l.o (members_shown l.edition (parameters_at l.s l.from)) l.out l.p (members_shown l.edition (parameters_at l.s l.c))

abbrev pub decreases-loop-m : goal.decreases-loop-m
decreases-loop-m l = length l.s - l.c
