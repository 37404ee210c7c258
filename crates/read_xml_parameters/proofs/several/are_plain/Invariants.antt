-- `read_xml_parameters::several::are_plain` meets its contract.
use Prim.Native.Nat.{◌-◌}
use lib.ListN.{length}
use Rattle.xcal.specs.ParameterNodes.{are_plain}
use Rattle.read_xml_nodes.specs.laws.Walks.{Passing}
use Rattle.read_xml_parameters.specs.laws.Several.{plains}
use Rattle.read_xml_parameters.proofs.several.are_plain.Given as goal

abbrev pub invariant-loop-k : goal.invariant-loop-k
invariant-loop-k l = Passing are_plain l.s l.at l.c

abbrev pub decreases-loop-k : goal.decreases-loop-k
decreases-loop-k l = length l.s - l.c
