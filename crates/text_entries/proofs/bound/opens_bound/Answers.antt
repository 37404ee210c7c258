-- `text_entries::bound::opens_bound` meets its contract.
use Rattle.octets.specs.laws.Pick.{branching_joined}
use Rattle.text_entries.proofs.bound.opens_bound.Goals as goal

pub returns-then-b-eq-UPPER_E : goal.returns-then-b-eq-UPPER_E
returns-then-b-eq-UPPER_E c = search branching_joined

pub returns-else-b-eq-UPPER_E : goal.returns-else-b-eq-UPPER_E
returns-else-b-eq-UPPER_E c = search branching_joined
