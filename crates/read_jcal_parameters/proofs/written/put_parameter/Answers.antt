-- `read_jcal_parameters::written::put_parameter` meets its contract.
use Rattle.sink.specs.laws.Sink.{writing}
use Rattle.read_jcal_parameters.specs.laws.Written.{parameter_put}
use Rattle.read_jcal_parameters.proofs.written.put_parameter.Goals as goal

pub cursor_of-k-requires : goal.cursor_of-k-requires
cursor_of-k-requires c = search writing

pub parameter_number-q-requires : goal.parameter_number-q-requires
parameter_number-q-requires c = search writing

pub put_param_name-a-requires : goal.put_param_name-a-requires
put_param_name-a-requires c = search writing

pub put_values-requires : goal.put_values-requires
put_values-requires c = search writing

pub shape_of-out : goal.shape_of-out
shape_of-out c = search writing

pub returns : goal.returns
returns c = search (parameter_put, writing)
