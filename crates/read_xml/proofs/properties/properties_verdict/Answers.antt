-- `read_xml::properties::properties_verdict` meets its contract.
use Rattle.read_xml.specs.laws.Properties.{listing}
use Rattle.read_xml.specs.laws.Properties.{list_bad, list_good}
use Rattle.read_xml_nodes.specs.laws.Judging.{passed_on}
use Rattle.read_xml.proofs.properties.properties_verdict.Goals as goal

pub nodes-init : goal.nodes-init
nodes-init c = search listing

pub returns-in-Absent : goal.returns-in-Absent
returns-in-Absent c = search listing

pub nodes-preserved : goal.nodes-preserved
nodes-preserved c = search listing

pub returns-else-is_space : goal.returns-else-is_space
returns-else-is_space c = search listing

pub returns-in-Referred : goal.returns-in-Referred
returns-in-Referred c = search listing

pub returns-in_err-property_verdict-in-Element : goal.returns-in_err-property_verdict-in-Element
returns-in_err-property_verdict-in-Element c = rw (passed_on _ _ c.from_residual.ensures.1) (list_bad _ c.nodes.invariant c.next_node-n.ensures c.in-Element.is c.property_at-row.ensures _ c.property_verdict.ensures c.in_err-property_verdict-in-Element.was)

pub nodes-preserved-in-Element : goal.nodes-preserved-in-Element
nodes-preserved-in-Element c = list_good _ c.nodes.invariant c.next_node-n.ensures c.in-Element.is c.property_at-row.ensures _ c.property_verdict.ensures c.in_ok-property_verdict-in-Element.was c.word_of.ensures c.count-kept.ensures
