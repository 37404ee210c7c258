-- `read_jcal_value::number_item` meets its contract.
use Rattle.read_jcal_value.specs.laws.Elements.{kinds}
use Rattle.read_jcal_value.proofs.items.number_item.Goals as goal

pub returns-then-is_number : goal.returns-then-is_number
returns-then-is_number c = search kinds

pub returns-else-is_number : goal.returns-else-is_number
returns-else-is_number c = search kinds
