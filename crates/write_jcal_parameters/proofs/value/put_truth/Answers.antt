-- `write_jcal_parameters::value::put_truth` meets its contract.
use Rattle.sink.specs.laws.Sink.{writing}
use Rattle.write_jcal_parameters.proofs.value.put_truth.Goals as goal

pub put_all-requires : goal.put_all-requires
put_all-requires c = search writing

pub shape_of-out-then-b : goal.shape_of-out-then-b
shape_of-out-then-b c = search writing

pub returns-then-b : goal.returns-then-b
returns-then-b c = search writing

pub put_all-requires-2 : goal.put_all-requires-2
put_all-requires-2 c = search writing

pub shape_of-out : goal.shape_of-out
shape_of-out c = search writing

pub returns : goal.returns
returns c = search writing
