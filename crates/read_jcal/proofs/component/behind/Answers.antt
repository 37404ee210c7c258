-- `read_jcal::behind` meets its contract.
use Rattle.read_jcal.specs.laws.Components.{closing}
use Rattle.read_jcal.proofs.component.behind.Goals as goal

pub returns-then-complete_counts : goal.returns-then-complete_counts
returns-then-complete_counts c = search closing

pub returns : goal.returns
returns c = search closing
