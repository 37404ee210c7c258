-- `read_jcal::is_whole` meets its contract.
use Rattle.read_jcal.specs.laws.Components.{beginning}
use Rattle.read_jcal.proofs.component.is_whole.Goals as goal

pub returns-then-is_array-2 : goal.returns-then-is_array-2
returns-then-is_array-2 c = search beginning

pub returns-else-is_array-2 : goal.returns-else-is_array-2
returns-else-is_array-2 c = search beginning
