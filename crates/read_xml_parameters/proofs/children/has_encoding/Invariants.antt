-- `read_xml_parameters::children::has_encoding` meets its contract.
use Prim.Native.Nat.{◌-◌}
use lib.ListN.{length}
use Rattle.xcal.specs.ParameterNodes.{has_encoding}
use Rattle.read_xml_nodes.specs.laws.Walks.{Passing}
use Rattle.read_xml_parameters.specs.laws.Children.{encodings}
use Rattle.read_xml_parameters.proofs.children.has_encoding.Given as goal

abbrev pub invariant-loop-a : goal.invariant-loop-a
invariant-loop-a l = Passing has_encoding l.s l.inside l.c

abbrev pub decreases-loop-a : goal.decreases-loop-a
decreases-loop-a l = length l.s - l.c
