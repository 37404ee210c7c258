-- `write_jcal_value::rule::put_items_json` meets its contract.
use Rattle.sink.specs.laws.Sink.{writing}
use Rattle.recur.specs.laws.PieceLaws.{cut_count}
use Rattle.write_jcal_value.specs.laws.PutRule.{put_one, put_array}
use Rattle.write_jcal_value.proofs.rule.put_items_json.Goals as goal

pub byte_end-e-requires : goal.byte_end-e-requires
byte_end-e-requires g c = search writing

pub unit-n-requires : goal.unit-n-requires
unit-n-requires g c = search writing

pub slice_bounds-put_item_json-end : goal.slice_bounds-put_item_json-end
slice_bounds-put_item_json-end g c = search (cut_count, writing)

pub put_item_json-requires : goal.put_item_json-requires
put_item_json-requires g c = search writing

pub shape_of-out-then-u-eq-END : goal.shape_of-out-then-u-eq-END
shape_of-out-then-u-eq-END g c = search writing

pub returns-then-u-eq-END : goal.returns-then-u-eq-END
returns-then-u-eq-END g c = search (put_one, writing)

pub put-a-requires : goal.put-a-requires
put-a-requires g c = search writing

pub put_each_item-b-requires : goal.put_each_item-b-requires
put_each_item-b-requires g c = search writing

pub put-requires : goal.put-requires
put-requires g c = search writing

pub shape_of-out : goal.shape_of-out
shape_of-out g c = search writing

pub returns : goal.returns
returns g c = search (put_array, writing)
