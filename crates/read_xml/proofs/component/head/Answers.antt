-- `read_xml::component::head` meets its contract.
use Rattle.std.proofs.Common.{ap, ◌∙◌, Ok}
use Rattle.read_xml.specs.laws.Components.{heading, head_end, head_short, head_good, head_bad}
use Rattle.read_xml_nodes.specs.laws.Judging.{passed_on}
use Rattle.read_xml.proofs.component.head.Goals as goal

pub children-init : goal.children-init
children-init c = search heading

pub returns-in_err-end_of-in-End : goal.returns-in_err-end_of-in-End
returns-in_err-end_of-in-End c = rw (passed_on _ _ c.from_residual-in_err-end_of-in-End.ensures.1) (head_short _ c.children.invariant c.child_at.ensures (c.in_ok-child_at.was ∙ ap Ok c.in-End.is) _ c.end_of.ensures c.in_err-end_of-in-End.was)

pub returns-in-End : goal.returns-in-End
returns-in-End c = head_end _ c.children.invariant c.child_at.ensures (c.in_ok-child_at.was ∙ ap Ok c.in-End.is) _ c.end_of.ensures c.in_ok-end_of-in-End.was

pub returns-in_err-kept-in-Properties : goal.returns-in_err-kept-in-Properties
returns-in_err-kept-in-Properties c = rw (passed_on _ _ c.from_residual-in_err-kept-in-Properties.ensures.1) (head_bad _ c.children.invariant c.child_at.ensures (c.in_ok-child_at.was ∙ ap Ok c.in-Properties.is) c.properties_verdict.ensures c.in_err-kept-in-Properties.was)

pub children-preserved : goal.children-preserved
children-preserved c = head_good _ c.children.invariant c.child_at.ensures (c.in_ok-child_at.was ∙ ap Ok c.in-Properties.is) c.properties_verdict.ensures c.in_ok-kept-in-Properties.was
