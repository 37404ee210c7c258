-- `write_text_pieces::leaf::put_boolean_text` meets its contract.
use Rattle.sink.specs.laws.Sink.{writing}
use Rattle.write_text_pieces.specs.laws.Leaves.{put_no_truth, put_truth}
use Rattle.write_text_pieces.proofs.leaf.put_boolean_text.Goals as goal

pub read_boolean-requires : goal.read_boolean-requires
read_boolean-requires g c = search writing

pub put_boolean-requires : goal.put_boolean-requires
put_boolean-requires g c = search writing

pub returns-in-Some : goal.returns-in-Some
returns-in-Some g c = search (put_truth, writing)

pub returns-in-None : goal.returns-in-None
returns-in-None g c = search (put_no_truth, writing)
