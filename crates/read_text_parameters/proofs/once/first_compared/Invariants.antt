-- `read_text_parameters::first_compared` meets its contract.
use Prim.Native.Nat.{◌*◌, ◌-◌}
use lib.ListN.{length}
use Rattle.read_text_parameters.specs.Comparing.{Comparing}
use Rattle.read_text_parameters.proofs.once.first_compared.Given as goal

abbrev pub invariant-loop-a : goal.invariant-loop-a
invariant-loop-a g l = Comparing g.E.Encoding.encoding l.s l.e l.k l.c

abbrev pub decreases-loop-a : goal.decreases-loop-a
decreases-loop-a g l = 4 * length l.s - l.c
