-- `write_json::put_quoted` meets its contract.
use Rattle.sink.specs.laws.Sink.{writing}
use Rattle.write_json.proofs.put_quoted.Goals as goal

pub put-a-requires : goal.put-a-requires
put-a-requires g c = search writing

pub put_escaped-b-requires : goal.put_escaped-b-requires
put_escaped-b-requires g c = search writing

pub put-requires : goal.put-requires
put-requires g c = search writing

pub shape_of-out : goal.shape_of-out
shape_of-out g c = search writing

pub returns : goal.returns
returns g c = search writing
