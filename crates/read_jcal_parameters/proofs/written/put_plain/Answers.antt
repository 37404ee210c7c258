-- `read_jcal_parameters::written::put_plain` meets its contract.
use Rattle.sink.specs.laws.Sink.{writing}
use Rattle.read_jcal_parameters.specs.laws.Written.{plain_put}
use Rattle.read_jcal_parameters.proofs.written.put_plain.Goals as goal

pub is_quoted-quoted-requires : goal.is_quoted-quoted-requires
is_quoted-quoted-requires c = search writing

pub put_param_value-requires : goal.put_param_value-requires
put_param_value-requires c = search writing

pub shape_of-out : goal.shape_of-out
shape_of-out c = search writing

pub returns : goal.returns
returns c = search (plain_put, writing)
