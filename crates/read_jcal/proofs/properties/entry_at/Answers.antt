-- `read_jcal::entry_at` meets its contract.
use Rattle.read_jcal.specs.laws.Properties.{entering}
use Rattle.read_jcal.proofs.properties.entry_at.Goals as goal

pub returns-then-not-is_array : goal.returns-then-not-is_array
returns-then-not-is_array c = search entering

pub returns : goal.returns
returns c = search entering
