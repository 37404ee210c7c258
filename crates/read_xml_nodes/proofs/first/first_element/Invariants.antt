-- `read_xml_nodes::first::first_element` meets its contract.
use Prim.Native.Nat.{◌-◌}
use lib.ListN.{length}
use Rattle.read_xml_nodes.specs.First.{first_element}
use Rattle.read_xml_nodes.specs.laws.Walks.{Passing, firsts}
use Rattle.read_xml_nodes.proofs.first.first_element.Given as goal

abbrev pub invariant-loop-c : goal.invariant-loop-c
invariant-loop-c l = Passing first_element l.s l.at l.c

abbrev pub decreases-loop-c : goal.decreases-loop-c
decreases-loop-c l = length l.s - l.c
