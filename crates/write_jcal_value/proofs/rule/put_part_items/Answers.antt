-- `write_jcal_value::rule::put_part_items` meets its contract.
use Rattle.sink.specs.laws.Sink.{writing}
use Rattle.write_jcal_value.specs.laws.PutRule.{put_listed, put_single}
use Rattle.write_jcal_value.proofs.rule.put_part_items.Goals as goal

pub is_list_part-listed-requires : goal.is_list_part-listed-requires
is_list_part-listed-requires g c = search writing

pub put_items_json-requires : goal.put_items_json-requires
put_items_json-requires g c = search writing

pub shape_of-out-then-listed : goal.shape_of-out-then-listed
shape_of-out-then-listed g c = search writing

pub returns-then-listed : goal.returns-then-listed
returns-then-listed g c = search (put_listed, writing)

pub put_item_json-requires : goal.put_item_json-requires
put_item_json-requires g c = search writing

pub shape_of-out : goal.shape_of-out
shape_of-out g c = search writing

pub returns : goal.returns
returns g c = search (put_single, writing)
