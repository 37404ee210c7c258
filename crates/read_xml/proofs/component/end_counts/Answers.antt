-- `read_xml::component::end_counts` meets its contract.
use Rattle.read_xml.specs.laws.Components.{ending}
use Rattle.read_xml.proofs.component.end_counts.Goals as goal

pub returns-then-complete_counts : goal.returns-then-complete_counts
returns-then-complete_counts c = search ending

pub returns-else-complete_counts : goal.returns-else-complete_counts
returns-else-complete_counts c = search ending
