-- `write_jcal::components::put_name` meets its contract.
use Rattle.sink.specs.laws.Sink.{writing}
use Rattle.write_jcal.proofs.components.put_name.Goals as goal

pub put_separator-a-requires : goal.put_separator-a-requires
put_separator-a-requires g c = search writing

pub put-b-requires : goal.put-b-requires
put-b-requires g c = search writing

pub put_small_quoted-c-requires : goal.put_small_quoted-c-requires
put_small_quoted-c-requires g c = search writing

pub put_all-requires : goal.put_all-requires
put_all-requires g c = search writing

pub shape_of-out : goal.shape_of-out
shape_of-out g c = search writing

pub returns : goal.returns
returns g c = search writing
