-- `read_jcal::component_verdict` and `read_jcal::components_verdict`, which call each other.
use Prim.Native.Nat.{◌+◌, ◌*◌, ◌-◌}
use lib.ListN.{length}
use Rattle.read_jcal.specs.laws.Subcomponents.{Among}
use Rattle.read_jcal.proofs.subcomponents.+component_verdict_components_verdict.Given as goal

abbrev pub decreases-component_verdict : goal.decreases-component_verdict
decreases-component_verdict l = 2 * l.left

abbrev pub decreases-components_verdict : goal.decreases-components_verdict
decreases-components_verdict l = 2 * l.left + 1

abbrev pub invariant-components_verdict-loop-edition : goal.invariant-components_verdict-loop-edition
invariant-components_verdict-loop-edition l = Among l.edition l.outer l.left l.method l.s l.from l.at

abbrev pub decreases-components_verdict-loop-edition : goal.decreases-components_verdict-loop-edition
decreases-components_verdict-loop-edition l = length l.s - l.at
