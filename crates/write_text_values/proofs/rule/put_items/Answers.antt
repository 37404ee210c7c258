-- `write_text_values::rule::put_items` meets its contract.
use Prim.Native.Nat.{◌-◌}
use lib.ListN.{length}
use Rattle.write_text_values.specs.laws.PutRule.{Itemizing, items_start, items_more, items_end, item_within, item_less}
use Rattle.sink.specs.laws.Sink.{writing}
use Rattle.write_text_values.proofs.rule.put_items.Goals as goal

pub loop-item-init : goal.loop-item-init
loop-item-init c = search (items_start, writing)

pub find_item-requires : goal.find_item-requires
find_item-requires c = c.requires.0

pub put_one_item-q-requires : goal.put_one_item-q-requires
put_one_item-q-requires c = (c.requires.1, (item_within c.find_item.ensures c.in-Some.is).inside)

pub loop-item-smaller : goal.loop-item-smaller
loop-item-smaller c = item_less c.find_item.ensures c.in-Some.is

pub loop-item-preserved : goal.loop-item-preserved
loop-item-preserved c = items_more c.loop-item.invariant c.find_item.ensures c.in-Some.is c.put_one_item-q.ensures

pub returns : goal.returns
returns c = items_end c.loop-item.invariant c.find_item.ensures c.in_default.is
