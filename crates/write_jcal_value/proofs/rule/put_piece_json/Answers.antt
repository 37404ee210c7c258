-- `write_jcal_value::rule::put_piece_json` meets its contract.
use Rattle.sink.specs.laws.Sink.{writing}
use Rattle.write_jcal_value.specs.laws.PutRule.{put_piece}
use Rattle.write_jcal_value.proofs.rule.put_piece_json.Goals as goal

pub value_at-v-requires : goal.value_at-v-requires
value_at-v-requires g c = search writing

pub put_part_label-a-requires : goal.put_part_label-a-requires
put_part_label-a-requires g c = search writing

pub put_part_items-requires : goal.put_part_items-requires
put_part_items-requires g c = search writing

pub shape_of-out : goal.shape_of-out
shape_of-out g c = search writing

pub returns : goal.returns
returns g c = search (put_piece, writing)
