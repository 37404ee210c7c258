-- `write_text_pieces::leaf::put_leaf` meets its contract.
use Rattle.sink.specs.laws.Sink.{writing}
use Rattle.write_text_pieces.specs.laws.Leaves.{put_value}
use Rattle.write_text_pieces.proofs.leaf.put_leaf.Goals as goal

pub put_from_binary-requires : goal.put_from_binary-requires
put_from_binary-requires g c = search writing

pub shape_of-out : goal.shape_of-out
shape_of-out g c = search writing

pub returns : goal.returns
returns g c = search (put_value, writing)
