-- `read_xml_value::turns::turn` meets its contract.
use Rattle.read_xml_nodes.specs.laws.Judging.{passed_on}
use Rattle.read_xml_value.specs.laws.Turning.{turning, turn_done, turn_stops}
use Rattle.read_xml_value.proofs.turns.turn.Goals as goal

pub returns-in_err-at_end-in-Absent : goal.returns-in_err-at_end-in-Absent
returns-in_err-at_end-in-Absent c = search turning

pub returns-in_err-slot-in-Element : goal.returns-in_err-slot-in-Element
returns-in_err-slot-in-Element c = rw (passed_on _ _ c.from_residual-in_err-slot-in-Element.ensures.1) (turn_stops _ _ c.next_node-n.ensures c.in-Element.is c.part_place-i.ensures c.child.ensures c.in_err-slot-in-Element.was)

pub returns-in_ok-at_end-in-Absent : goal.returns-in_ok-at_end-in-Absent
returns-in_ok-at_end-in-Absent c = turn_done _ _ c.next_node-n.ensures c.in-Absent.is _ c.at_end.ensures c.in_ok-at_end-in-Absent.was

pub returns-in_ok-slot-in-Element : goal.returns-in_ok-slot-in-Element
returns-in_ok-slot-in-Element c = search turning

pub returns-then-is_space : goal.returns-then-is_space
returns-then-is_space c = search turning

pub returns-else-is_space : goal.returns-else-is_space
returns-else-is_space c = search turning

pub returns-in-Referred : goal.returns-in-Referred
returns-in-Referred c = search turning
