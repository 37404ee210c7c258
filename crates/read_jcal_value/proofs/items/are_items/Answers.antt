-- `read_jcal_value::are_items` meets its contract.
use Rattle.read_jcal_value.specs.laws.Items.{several}
use Rattle.read_jcal_value.proofs.items.are_items.Goals as goal

pub returns-then-all_items : goal.returns-then-all_items
returns-then-all_items c = search several

pub returns-else-all_items : goal.returns-else-all_items
returns-else-all_items c = search several
