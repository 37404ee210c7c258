-- `read_xml_parameters::written::put_truth` meets its contract.
use Rattle.read_xml_parameters.specs.laws.Written.{truth_put, truth_none}
use Rattle.sink.specs.laws.Sink.{writing}
use Rattle.read_xml_parameters.proofs.written.put_truth.Goals as goal

pub shape_of-out : goal.shape_of-out
shape_of-out c = search writing

pub returns-in-Some : goal.returns-in-Some
returns-in-Some c = search (truth_put, writing)

pub returns-in-None : goal.returns-in-None
returns-in-None c = search (truth_none, writing)
