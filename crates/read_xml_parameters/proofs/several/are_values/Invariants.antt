-- `read_xml_parameters::several::are_values` meets its contract.
use Prim.Native.Nat.{◌-◌}
use lib.ListN.{length}
use Rattle.read_xml_nodes.specs.laws.Walks.{Passing}
use Rattle.read_xml_parameters.specs.Rows.{row_at}
use Rattle.read_xml_parameters.specs.Several.{all_values}
use Rattle.read_xml_parameters.specs.laws.Several.{valued}
use Rattle.read_xml_parameters.proofs.several.are_values.Given as goal

abbrev pub invariant-loop-a : goal.invariant-loop-a
invariant-loop-a l = Passing (all_values (row_at l.q)) l.s l.at l.c

abbrev pub decreases-loop-a : goal.decreases-loop-a
decreases-loop-a l = length l.s - l.c
