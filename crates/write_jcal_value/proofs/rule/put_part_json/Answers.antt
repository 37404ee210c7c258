-- `write_jcal_value::rule::put_part_json` meets its contract.
use Rattle.sink.specs.laws.Sink.{writing}
use Rattle.recur.specs.laws.PieceLaws.{cut_count, cut_inside}
use Rattle.write_jcal_value.specs.laws.PutRule.{put_cut}
use Rattle.write_jcal_value.proofs.rule.put_part_json.Goals as goal

pub byte_end-e-requires : goal.byte_end-e-requires
byte_end-e-requires g c = search writing

pub put_separator-a-requires : goal.put_separator-a-requires
put_separator-a-requires g c = search writing

pub slice_bounds-put_piece_json-end : goal.slice_bounds-put_piece_json-end
slice_bounds-put_piece_json-end g c = search (cut_count, writing)

pub put_piece_json-requires : goal.put_piece_json-requires
put_piece_json-requires g c = search (cut_inside, writing)

pub shape_of-out : goal.shape_of-out
shape_of-out g c = search writing

pub returns : goal.returns
returns g c = search (put_cut, writing)
