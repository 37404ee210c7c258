-- `read_xml::properties::properties_verdict` meets its contract.
use Prim.Native.Nat.{◌-◌}
use lib.ListN.{length}
use Rattle.read_xml.specs.laws.Properties.{Listing}
use Rattle.read_xml.proofs.properties.properties_verdict.Given as goal

abbrev pub invariant-nodes : goal.invariant-nodes
invariant-nodes l = Listing l.edition l.k l.s l.inside l.at l.kept

abbrev pub decreases-nodes : goal.decreases-nodes
decreases-nodes l = length l.s - l.at
