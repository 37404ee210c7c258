-- `write_text::children::inside_of` meets its contract.
use Prim.Native.Nat.{◌-◌}
use lib.ListN.{length}
use Rattle.write_text.specs.laws.Children.{Seeking, seeking}
use Rattle.write_text.proofs.children.inside_of.Given as goal

abbrev pub invariant-loop-here : goal.invariant-loop-here
invariant-loop-here l = Seeking l.w l.s l.from l.at

abbrev pub decreases-loop-here : goal.decreases-loop-here
decreases-loop-here l = length l.s - l.at
