-- `read_jcal_value::is_number_item` meets its contract.
use lib.ListN.{length-take}
use native.Mathlib.Omega.{arith}
use Rattle.std.proofs.Common.{rules}
use Rattle.read_jcal_value.specs.laws.Items.{item_told}
use Rattle.read_jcal_value.proofs.items.is_number_item.Goals as goal

pub slice_bounds-read_item-end : goal.slice_bounds-read_item-end
slice_bounds-read_item-end c = simp length-take (omega arith)

pub returns : goal.returns
returns c = search (item_told, rules)
