-- `write_text::children::parameters_inside` meets its contract.
use Prim.Native.Nat.{◌-◌}
use lib.ListN.{length}
use Rattle.write_text.specs.laws.Parameters.{Sought, sought}
use Rattle.write_text.proofs.children.parameters_inside.Given as goal

abbrev pub invariant-loop-here : goal.invariant-loop-here
invariant-loop-here l = Sought l.p l.s l.from l.at

abbrev pub decreases-loop-here : goal.decreases-loop-here
decreases-loop-here l = length l.s - l.at
