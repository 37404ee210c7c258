-- `read_jcal::component_verdict` and `read_jcal::components_verdict` meet their contracts.
use Rattle.std.proofs.Common.{arith, rules}
use Rattle.read_jcal.specs.laws.Subcomponents.{whole_left, whole_fails, wholes, among_bad, among}
use Rattle.read_jcal.proofs.subcomponents.+component_verdict_components_verdict.Goals as goal

pub component_verdict-returns-in_err-c : goal.component_verdict-returns-in_err-c
component_verdict-returns-in_err-c t c = search wholes

pub component_verdict-overflow_sub-left : goal.component_verdict-overflow_sub-left
component_verdict-overflow_sub-left t c = omega (arith, whole_left _ c.in_ok-c.ensures)

pub component_verdict-components_verdict-requires : goal.component_verdict-components_verdict-requires
component_verdict-components_verdict-requires t c = (omega (arith, whole_left _ c.in_ok-c.ensures, c.decreases), search wholes)

pub component_verdict-returns-in_err-components_verdict : goal.component_verdict-returns-in_err-components_verdict
component_verdict-returns-in_err-components_verdict t c =
    search (rules, whole_fails c.args.edition c.args.h c.in_ok-c.ensures c.args.method c.method_for-m.ensures c.in_err-components_verdict.ensures)

pub component_verdict-returns : goal.component_verdict-returns
component_verdict-returns t c = search wholes

pub components_verdict-loop-edition-init : goal.components_verdict-loop-edition-init
components_verdict-loop-edition-init t c = search among

pub components_verdict-returns-then-not-is_there : goal.components_verdict-returns-then-not-is_there
components_verdict-returns-then-not-is_there t c = search among

pub components_verdict-component_verdict-requires : goal.components_verdict-component_verdict-requires
components_verdict-component_verdict-requires t c = (search among, search among)

pub components_verdict-returns-in_err-component_verdict : goal.components_verdict-returns-in_err-component_verdict
components_verdict-returns-in_err-component_verdict t c =
    search (rules, among_bad c.args.edition c.loop-edition.invariant c.element_at-h.ensures c.is_there.ensures c.if-not-is_there.false c.in_err-component_verdict.ensures)

pub components_verdict-loop-edition-smaller : goal.components_verdict-loop-edition-smaller
components_verdict-loop-edition-smaller t c = search among

pub components_verdict-loop-edition-preserved : goal.components_verdict-loop-edition-preserved
components_verdict-loop-edition-preserved t c = search among
