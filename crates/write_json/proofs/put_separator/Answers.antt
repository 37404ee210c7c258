-- `write_json::put_separator` meets its contract.
use Rattle.sink.specs.laws.Sink.{writing}
use Rattle.write_json.proofs.put_separator.Goals as goal

pub put-requires : goal.put-requires
put-requires c = search writing

pub shape_of-out-then-started : goal.shape_of-out-then-started
shape_of-out-then-started c = search writing

pub returns-then-started : goal.returns-then-started
returns-then-started c = search writing

pub returns : goal.returns
returns c = search writing
