-- `write_json::put_escaped_byte` meets its contract.
use Rattle.sink.specs.laws.Sink.{writing}
use Rattle.write_json.proofs.put_escaped_byte.Goals as goal

pub put_all-requires : goal.put_all-requires
put_all-requires c = search writing

pub shape_of-out-then-b-eq34 : goal.shape_of-out-then-b-eq34
shape_of-out-then-b-eq34 c = search writing

pub returns-then-b-eq34 : goal.returns-then-b-eq34
returns-then-b-eq34 c = search writing

pub put_all-requires-then-b-eq92 : goal.put_all-requires-then-b-eq92
put_all-requires-then-b-eq92 c = search writing

pub shape_of-out-then-b-eq92 : goal.shape_of-out-then-b-eq92
shape_of-out-then-b-eq92 c = search writing

pub returns-then-b-eq92 : goal.returns-then-b-eq92
returns-then-b-eq92 c = search writing

pub put_all-requires-then-b-eq10 : goal.put_all-requires-then-b-eq10
put_all-requires-then-b-eq10 c = search writing

pub shape_of-out-then-b-eq10 : goal.shape_of-out-then-b-eq10
shape_of-out-then-b-eq10 c = search writing

pub returns-then-b-eq10 : goal.returns-then-b-eq10
returns-then-b-eq10 c = search writing

pub put_all-requires-then-b-eq9 : goal.put_all-requires-then-b-eq9
put_all-requires-then-b-eq9 c = search writing

pub shape_of-out-then-b-eq9 : goal.shape_of-out-then-b-eq9
shape_of-out-then-b-eq9 c = search writing

pub returns-then-b-eq9 : goal.returns-then-b-eq9
returns-then-b-eq9 c = search writing

pub put-requires : goal.put-requires
put-requires c = search writing

pub shape_of-out : goal.shape_of-out
shape_of-out c = search writing

pub returns : goal.returns
returns c = search writing
