-- `read_xml::subcomponents::sub_at` meets its contract.
use Rattle.read_xml.specs.laws.Subcomponents.{subs}
use Rattle.read_xml.specs.laws.Subcomponents.{sub_end, sub_short}
use Rattle.read_xml_nodes.specs.laws.Judging.{passed_on}
use Rattle.read_xml.proofs.subcomponents.sub_at.Goals as goal

pub returns-in-Some : goal.returns-in-Some
returns-in-Some c = search subs

pub returns-in-None : goal.returns-in-None
returns-in-None c = search subs

pub returns-then-is_space : goal.returns-then-is_space
returns-then-is_space c = search subs

pub returns-else-is_space : goal.returns-else-is_space
returns-else-is_space c = search subs

pub returns-in-Referred : goal.returns-in-Referred
returns-in-Referred c = search subs

pub returns-in_err-end_components-in-Absent : goal.returns-in_err-end_components-in-Absent
returns-in_err-end_components-in-Absent c = rw (passed_on _ _ c.from_residual.ensures.1) (sub_short _ _ _ _ c.next_node-n.ensures c.in-Absent.is _ c.end_components.ensures c.in_err-end_components-in-Absent.was)

pub returns-in_ok-end_components-in-Absent : goal.returns-in_ok-end_components-in-Absent
returns-in_ok-end_components-in-Absent c = sub_end _ _ _ _ c.next_node-n.ensures c.in-Absent.is _ c.end_components.ensures c.in_ok-end_components-in-Absent.was
