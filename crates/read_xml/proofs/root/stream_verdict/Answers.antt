-- `read_xml::root::stream_verdict` meets its contract.
use Rattle.read_xml.specs.laws.Roots.{streaming}
use Rattle.read_xml.specs.laws.Roots.{stream_good, stream_bad}
use Rattle.read_xml_nodes.specs.laws.Judging.{passed_on}
use Rattle.read_xml.proofs.root.stream_verdict.Goals as goal

pub returns-then-any : goal.returns-then-any
returns-then-any c = search streaming

pub returns-else-any : goal.returns-else-any
returns-else-any c = search streaming

pub nodes-preserved : goal.nodes-preserved
nodes-preserved c = search streaming

pub returns-else-is_calendar : goal.returns-else-is_calendar
returns-else-is_calendar c = search streaming

pub returns-else-is_space : goal.returns-else-is_space
returns-else-is_space c = search streaming

pub returns-in-Referred : goal.returns-in-Referred
returns-in-Referred c = search streaming

pub returns-in_err-component_verdict-in-Element : goal.returns-in_err-component_verdict-in-Element
returns-in_err-component_verdict-in-Element c = rw (passed_on _ _ c.from_residual.ensures.1) (stream_bad _ c.nodes.invariant c.next_node-n.ensures c.in-Element.is c.is_calendar.ensures c.if-is_calendar.true _ c.component_verdict.ensures c.in_err-component_verdict-in-Element.was)

pub nodes-preserved-then-is_calendar : goal.nodes-preserved-then-is_calendar
nodes-preserved-then-is_calendar c = stream_good _ c.nodes.invariant c.next_node-n.ensures c.in-Element.is c.is_calendar.ensures c.if-is_calendar.true _ c.component_verdict.ensures c.in_ok-component_verdict-in-Element.was
