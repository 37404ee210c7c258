-- `read_xml_parameters::written::put_parameter` meets its contract.
use Rattle.read_xml_parameters.specs.laws.Listed.{parameter_put}
use Rattle.sink.specs.laws.Sink.{writing}
use Rattle.read_xml_parameters.proofs.written.put_parameter.Goals as goal

pub parameter_number-q-requires : goal.parameter_number-q-requires
parameter_number-q-requires c = search writing

pub put_param_name-a-requires : goal.put_param_name-a-requires
put_param_name-a-requires c = search writing

pub put_values-requires : goal.put_values-requires
put_values-requires c = search writing

pub shape_of-out : goal.shape_of-out
shape_of-out c = search writing

pub returns : goal.returns
returns c = search (parameter_put, writing)
