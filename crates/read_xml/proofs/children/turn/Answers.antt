-- `read_xml::children::turn` meets its contract.
use Rattle.read_xml.specs.laws.Turning.{turning, turn_done, turn_short, turn_nowhere, turn_good, turn_stops}
use Rattle.read_xml_nodes.specs.laws.Judging.{passed_on}
use Rattle.read_xml.proofs.children.turn.Goals as goal

pub returns-in_err-at_end-in-Absent : goal.returns-in_err-at_end-in-Absent
returns-in_err-at_end-in-Absent c = rw (passed_on _ _ c.from_residual.ensures.1) (turn_short _ _ _ _ c.next_node-n.ensures c.in-Absent.is _ c.at_end.ensures c.in_err-at_end-in-Absent.was)

pub returns-in_ok-at_end-in-Absent : goal.returns-in_ok-at_end-in-Absent
returns-in_ok-at_end-in-Absent c = turn_done _ _ _ _ c.next_node-n.ensures c.in-Absent.is _ c.at_end.ensures c.in_ok-at_end-in-Absent.was

pub returns-in_default : goal.returns-in_default
returns-in_default c = turn_nowhere _ _ _ _ c.next_node-n.ensures c.in-Element.is c.child_slot.ensures c.in_default.is c.unexpected.ensures

pub returns-in_err-after-in-Element : goal.returns-in_err-after-in-Element
returns-in_err-after-in-Element c = rw (passed_on _ _ c.from_residual-in_err-after-in-Element.ensures.1) (turn_stops _ _ _ _ c.next_node-n.ensures c.in-Element.is c.child_slot.ensures c.in-Some.is c.child.ensures c.in_err-after-in-Element.was)

pub returns-in_ok-after-in-Element : goal.returns-in_ok-after-in-Element
returns-in_ok-after-in-Element c = turn_good _ _ _ _ c.next_node-n.ensures c.in-Element.is c.child_slot.ensures c.in-Some.is c.child.ensures c.in_ok-after-in-Element.was c.fills.ensures c.fills-in-Element.ensures

pub returns-then-is_space : goal.returns-then-is_space
returns-then-is_space c = search turning

pub returns-else-is_space : goal.returns-else-is_space
returns-else-is_space c = search turning

pub returns-in-Referred : goal.returns-in-Referred
returns-in-Referred c = search turning
