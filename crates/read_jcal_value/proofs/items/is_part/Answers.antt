-- `read_jcal_value::is_part` meets its contract.
use Rattle.read_jcal_value.specs.laws.Items.{parting}
use Rattle.read_jcal_value.proofs.items.is_part.Goals as goal

pub returns-then-is_array : goal.returns-then-is_array
returns-then-is_array c = search parting

pub returns-else-is_array : goal.returns-else-is_array
returns-else-is_array c = search parting
