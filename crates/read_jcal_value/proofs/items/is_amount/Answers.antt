-- `read_jcal_value::is_amount` meets its contract.
use Rattle.read_jcal_value.specs.laws.Items.{amounting}
use Rattle.read_jcal_value.proofs.items.is_amount.Goals as goal

pub returns-then-is_list_part : goal.returns-then-is_list_part
returns-then-is_list_part c = search amounting

pub returns-else-is_list_part : goal.returns-else-is_list_part
returns-else-is_list_part c = search amounting

pub returns-else-is_there : goal.returns-else-is_there
returns-else-is_there c = search amounting
