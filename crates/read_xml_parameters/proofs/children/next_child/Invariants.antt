-- `read_xml_parameters::children::next_child` meets its contract.
use Prim.Native.Nat.{◌-◌}
use lib.ListN.{length}
use Rattle.read_xml_parameters.specs.laws.Children.{Looking, looking}
use Rattle.read_xml_parameters.proofs.children.next_child.Given as goal

abbrev pub invariant-loop-c : goal.invariant-loop-c
invariant-loop-c l = Looking l.s l.at l.c

abbrev pub decreases-loop-c : goal.decreases-loop-c
decreases-loop-c l = length l.s - l.c
