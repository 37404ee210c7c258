-- `read_jcal::is_amount` meets its contract.
use Rattle.read_jcal.specs.laws.Arrays.{arrays}
use Rattle.read_jcal.proofs.elements.is_amount.Goals as goal

pub returns-then-listed : goal.returns-then-listed
returns-then-listed c = search arrays

pub returns-else-listed : goal.returns-else-listed
returns-else-listed c = search arrays

pub returns-else-is_there : goal.returns-else-is_there
returns-else-is_there c = search arrays
