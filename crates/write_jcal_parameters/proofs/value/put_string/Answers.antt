-- `write_jcal_parameters::value::put_string` meets its contract.
use Rattle.sink.specs.laws.Sink.{writing}
use Rattle.write_jcal_parameters.proofs.value.put_string.Goals as goal

pub put-a-requires : goal.put-a-requires
put-a-requires g c = search writing

pub put_characters-b-requires : goal.put_characters-b-requires
put_characters-b-requires g c = search writing

pub put-requires : goal.put-requires
put-requires g c = search writing

pub shape_of-out : goal.shape_of-out
shape_of-out g c = search writing

pub returns : goal.returns
returns g c = search writing
