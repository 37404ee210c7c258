-- `write_jcal_value::text::put_strings_quoted` meets its contract.
use Rattle.sink.specs.laws.Sink.{writing}
use Rattle.write_jcal_value.proofs.text.put_strings_quoted.Goals as goal

pub put-a-requires : goal.put-a-requires
put-a-requires g c = search writing

pub put_strings-b-requires : goal.put_strings-b-requires
put_strings-b-requires g c = search writing

pub put-requires : goal.put-requires
put-requires g c = search writing

pub shape_of-out : goal.shape_of-out
shape_of-out g c = search writing

pub returns : goal.returns
returns g c = search writing
