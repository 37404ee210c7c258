-- `read_jcal_value::is_string_item` meets its contract.
use Rattle.std.proofs.Common.{rules}
use Rattle.read_jcal_value.specs.laws.Items.{item_told}
use Rattle.read_jcal_value.proofs.items.is_string_item.Goals as goal

pub returns : goal.returns
returns c = search (item_told, rules)
