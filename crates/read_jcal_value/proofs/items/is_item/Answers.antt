-- `read_jcal_value::is_item` meets its contract.
use Rattle.read_jcal_value.specs.laws.Items.{itemizing}
use Rattle.read_jcal_value.proofs.items.is_item.Goals as goal

pub returns-then-is_number_part : goal.returns-then-is_number_part
returns-then-is_number_part c = search itemizing

pub returns-else-is_number_part : goal.returns-else-is_number_part
returns-else-is_number_part c = search itemizing
