-- `read_xml_parameters::verdict::parameters_verdict` meets its contract.
use Rattle.read_xml_nodes.specs.laws.NodeFound.{element_onward, literal_onward}
use mathlib.Core.Path.{◌≡◌}
use mathlib.Core.Bool.{true}
use native.Mathlib.Omega.{arith}
use Prim.Native.Nat.{◌≤◌}
use Rattle.octets.specs.Lists.{distinct}
use Rattle.xml.specs.NodesAt.{nodes_at}
use Rattle.read_xml_parameters.specs.Fresh.{first_names}
use Rattle.read_xml_parameters.specs.laws.Fresh.{none_first}
use Rattle.read_xml_parameters.specs.laws.Told.{told_start, told_space, told_next, told_fresh}
use Prim.Native.Nat.{◌-◌}
use lib.ListN.{length}
use Rattle.read_xml_parameters.specs.laws.Told.{Told, telling, told_refused}
use borrow.Author.Rules.{rules}
use Rattle.read_xml_nodes.specs.laws.Judging.{passed_on}
use Rattle.read_xml_parameters.proofs.verdict.parameters_verdict.Goals as goal

pub nodes-init : goal.nodes-init
nodes-init c = (told_start _ _ _ _ _, omega arith, none_first _)

pub returns-in-Absent : goal.returns-in-Absent
returns-in-Absent c = search telling

pub known_fresh-fresh-requires : goal.known_fresh-fresh-requires
known_fresh-fresh-requires c = c.nodes.invariant.2

pub judge-requires : goal.judge-requires
judge-requires c = (c.requires, λ h. told_fresh _ c.nodes.invariant.0 c.next_node-n.ensures c.in-Element.is c.known_fresh-fresh.result c.known_fresh-fresh.ensures h)

pub returns-in_err-judge-in-Element : goal.returns-in_err-judge-in-Element
returns-in_err-judge-in-Element c = rw (passed_on _ _ c.from_residual.ensures.1) (told_refused _ c.nodes.invariant.0 c.next_node-n.ensures c.in-Element.is _ c.judge.ensures c.in_err-judge-in-Element.was)

pub overflow_add-i : goal.overflow_add-i
overflow_add-i c = omega (arith, element_onward c.next_node-n.ensures c.in-Element.is)

pub nodes-preserved-in-Element : goal.nodes-preserved-in-Element
nodes-preserved-in-Element c = (told_next _ c.nodes.invariant.0 c.next_node-n.ensures c.in-Element.is _ c.judge.ensures c.in_ok-judge-in-Element.was, omega (arith, element_onward c.next_node-n.ensures c.in-Element.is), c.known_fresh-fresh.ensures)

pub nodes-preserved : goal.nodes-preserved
nodes-preserved c = (told_space _ c.nodes.invariant.0 c.next_node-n.ensures c.in-Literal.is c.is_space.ensures c.if-is_space.true, omega (arith, literal_onward c.next_node-n.ensures c.in-Literal.is), c.nodes.invariant.2)

pub returns-else-is_space : goal.returns-else-is_space
returns-else-is_space c = search telling

pub returns-in-Referred : goal.returns-in-Referred
returns-in-Referred c = search telling
