-- `read_xml::component::behind` meets its contract.
use Prim.Native.Nat.{◌-◌}
use lib.ListN.{length}
use Rattle.read_xml.specs.laws.Components.{Following}
use Rattle.read_xml.proofs.component.behind.Given as goal

abbrev pub invariant-nodes : goal.invariant-nodes
invariant-nodes l = Following l.s l.from l.e l.at l.had

abbrev pub decreases-nodes : goal.decreases-nodes
decreases-nodes l = length l.s - l.at
