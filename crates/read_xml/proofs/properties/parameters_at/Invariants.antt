-- `read_xml::parameters_at` meets its contract.
use Prim.Native.Nat.{◌-◌}
use lib.ListN.{length}
use Rattle.read_xml.specs.laws.Properties.{Seeking}
use Rattle.read_xml.proofs.properties.parameters_at.Given as goal

abbrev pub invariant-nodes : goal.invariant-nodes
invariant-nodes l = Seeking l.p l.s l.inside l.at

abbrev pub decreases-nodes : goal.decreases-nodes
decreases-nodes l = length l.s - l.at
