-- `read_xml::component_verdict` and `read_xml::components_verdict`, which call each other, meet their contracts.
use Rattle.std.proofs.Common.{ap, ◌∙◌, Ok}
use Rattle.read_xml.specs.laws.Subcomponents.{among, whole_fails, whole_behind, among_fine, among_bad, among_good}
use Rattle.read_xml_nodes.specs.laws.Judging.{passed_on}
use Rattle.read_xml.proofs.subcomponents.+component_verdict_components_verdict.Goals as goal

pub component_verdict-returns-in_err-inner : goal.component_verdict-returns-in_err-inner
component_verdict-returns-in_err-inner t c = rw (passed_on _ _ c.from_residual-in_err-inner.ensures.1) (whole_fails _ _ c.head.ensures (c.in_ok-o.was ∙ ap Ok c.in-Some.is) c.method_inside-m.ensures c.components_verdict.ensures c.in_err-inner.was)

pub component_verdict-returns : goal.component_verdict-returns
component_verdict-returns t c = whole_behind _ _ c.head.ensures (c.in_ok-o.was ∙ ap Ok c.in-Some.is) c.method_inside-m.ensures c.components_verdict.ensures c.in_ok-inner.was c.behind.ensures

pub components_verdict-nodes-init : goal.components_verdict-nodes-init
components_verdict-nodes-init t c = search among

pub components_verdict-returns-in-Done : goal.components_verdict-returns-in-Done
components_verdict-returns-in-Done t c = among_fine _ c.nodes.invariant c.sub_at.ensures (c.in_ok-sub_at.was ∙ ap Ok c.in-Done.is)

pub components_verdict-returns-in_err-component_verdict-in-Begins : goal.components_verdict-returns-in_err-component_verdict-in-Begins
components_verdict-returns-in_err-component_verdict-in-Begins t c = rw (passed_on _ _ c.from_residual-in_err-component_verdict-in-Begins.ensures.1) (among_bad _ c.nodes.invariant c.sub_at.ensures (c.in_ok-sub_at.was ∙ ap Ok c.in-Begins.is) c.component_verdict.ensures c.in_err-component_verdict-in-Begins.was)

pub components_verdict-nodes-preserved : goal.components_verdict-nodes-preserved
components_verdict-nodes-preserved t c = among_good _ c.nodes.invariant c.sub_at.ensures (c.in_ok-sub_at.was ∙ ap Ok c.in-Begins.is) c.component_verdict.ensures c.in_ok-component_verdict-in-Begins.was
