-- `read_xml_value::first_type` meets its contract.
use Prim.Native.Nat.{◌-◌}
use lib.ListN.{length}
use Rattle.schema.specs.Numbers.{type_at}
use Rattle.xcal.specs.ValueNodes.{first_type}
use Rattle.read_xml_nodes.specs.laws.Walks.{Passing}
use Rattle.read_xml_value.specs.laws.ElementTypes.{firsts}
use Rattle.read_xml_value.proofs.types.first_type.Given as goal

abbrev pub invariant-nodes : goal.invariant-nodes
invariant-nodes l = Passing (first_type (type_at l.t)) l.s l.inside l.c

abbrev pub decreases-nodes : goal.decreases-nodes
decreases-nodes l = length l.s - l.c
