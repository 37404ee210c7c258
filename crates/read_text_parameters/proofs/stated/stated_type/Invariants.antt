-- `read_text_parameters::stated_type` meets its contract.
use Rattle.read_text_parameters.specs.laws.Stating.{Stating}
use lib.ListN.{length}
use Prim.Native.Nat.{◌*◌, ◌-◌}
use Rattle.read_text_parameters.proofs.stated.stated_type.Given as goal

abbrev pub invariant-loop-a : goal.invariant-loop-a
invariant-loop-a g l = Stating l.edition l.default g.E.Encoding.encoding l.s l.e l.c

abbrev pub decreases-loop-a : goal.decreases-loop-a
decreases-loop-a g l = 4 * length l.s - l.c
