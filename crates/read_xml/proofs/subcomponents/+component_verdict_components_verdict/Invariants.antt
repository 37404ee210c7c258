-- `read_xml::component_verdict` and `read_xml::components_verdict`, which call each other.
use Prim.Native.Nat.{◌+◌, ◌*◌, ◌-◌}
use lib.ListN.{length}
use Rattle.read_xml.specs.laws.Subcomponents.{Among}
use Rattle.read_xml.proofs.subcomponents.+component_verdict_components_verdict.Given as goal

abbrev pub decreases-component_verdict : goal.decreases-component_verdict
decreases-component_verdict l = 2 * l.left + 1

abbrev pub decreases-components_verdict : goal.decreases-components_verdict
decreases-components_verdict l = 2 * l.left

abbrev pub invariant-components_verdict-nodes : goal.invariant-components_verdict-nodes
invariant-components_verdict-nodes l = Among l.edition l.k l.left l.method l.s l.inside l.e l.at l.any

abbrev pub decreases-components_verdict-nodes : goal.decreases-components_verdict-nodes
decreases-components_verdict-nodes l = length l.s - l.at
