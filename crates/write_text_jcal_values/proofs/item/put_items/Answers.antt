-- `write_text_jcal_values::put_items` meets its contract. Assumes nothing.
use Rattle.write_text_jcal_values.specs.laws.Items.{items_array, items_alone}
use Rattle.write_text_jcal_values.specs.laws.Elements.{head_strung}
use Rattle.sink.specs.laws.Sink.{writing}
use Rattle.write_text_jcal_values.proofs.item.put_items.Goals as goal

pub element_at-h-requires : goal.element_at-h-requires
element_at-h-requires c = search writing

pub is_array-array-requires : goal.is_array-array-requires
is_array-array-requires c = search writing

pub put_listed-requires : goal.put_listed-requires
put_listed-requires c = search writing

pub shape_of-out-then-array : goal.shape_of-out-then-array
shape_of-out-then-array c = search writing

pub returns-then-array : goal.returns-then-array
returns-then-array c = items_array c.args.p c.element_at-h.ensures c.is_array-array.ensures c.if-array.true c.put_listed.ensures

pub put_item_of-requires : goal.put_item_of-requires
put_item_of-requires c = (c.requires, head_strung c.element_at-h.ensures)

pub shape_of-out : goal.shape_of-out
shape_of-out c = search writing

pub returns : goal.returns
returns c = items_alone c.args.p c.element_at-h.ensures c.is_array-array.ensures c.if-array.false c.put_item_of.ensures
