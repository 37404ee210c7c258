-- `recur::item::read_item` meets its contract.
use Rattle.recur.specs.laws.Fits.{item_good, item_bad}
use Rattle.recur.proofs.item.read_item.Goals as goal

pub returns-then-is_item : goal.returns-then-is_item
returns-then-is_item g c = item_good _ c.is_item.ensures c.if-is_item.true

pub returns : goal.returns
returns g c = item_bad c.args.p c.is_item.ensures c.if-is_item.false
