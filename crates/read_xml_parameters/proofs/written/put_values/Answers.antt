-- `read_xml_parameters::written::put_values` meets its contract.
use Rattle.read_xml_parameters.specs.laws.Written.{values_put, values_unread}
use Rattle.sink.specs.laws.Sink.{writing}
use Rattle.read_xml_parameters.proofs.written.put_values.Goals as goal

pub are_values-values-requires : goal.are_values-values-requires
are_values-values-requires c = search writing

pub put_list-requires : goal.put_list-requires
put_list-requires c = search writing

pub shape_of-out-then-values : goal.shape_of-out-then-values
shape_of-out-then-values c = search writing

pub returns-then-values : goal.returns-then-values
returns-then-values c = search (values_put, writing)

pub returns : goal.returns
returns c = search (values_unread, writing)
