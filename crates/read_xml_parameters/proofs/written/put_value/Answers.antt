-- `read_xml_parameters::written::put_value` meets its contract.
use Rattle.read_xml_parameters.specs.laws.Written.{value_truth, value_plain}
use Rattle.sink.specs.laws.Sink.{writing}
use Rattle.read_xml_parameters.proofs.written.put_value.Goals as goal

pub cursor_of-c-requires : goal.cursor_of-c-requires
cursor_of-c-requires c = search writing

pub parameter_type-t-requires : goal.parameter_type-t-requires
parameter_type-t-requires c = search writing

pub put_truth-requires : goal.put_truth-requires
put_truth-requires c = search writing

pub shape_of-out-then-t-eq-BOOLEAN : goal.shape_of-out-then-t-eq-BOOLEAN
shape_of-out-then-t-eq-BOOLEAN c = search writing

pub returns-then-t-eq-BOOLEAN : goal.returns-then-t-eq-BOOLEAN
returns-then-t-eq-BOOLEAN c = search (value_truth, writing)

pub put_plain-requires : goal.put_plain-requires
put_plain-requires c = search writing

pub shape_of-out : goal.shape_of-out
shape_of-out c = search writing

pub returns : goal.returns
returns c = search (value_plain, writing)
