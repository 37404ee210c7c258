-- `write_jcal_parameters::value::put_boolean_string` meets its contract.
use Rattle.sink.specs.laws.Sink.{put_none, writing}
use Rattle.write_jcal_parameters.specs.laws.Parts.{put_truth, put_no_truth}
use Rattle.write_jcal_parameters.proofs.value.put_boolean_string.Goals as goal

pub read_boolean-requires : goal.read_boolean-requires
read_boolean-requires g c = search writing

pub put_truth-requires : goal.put_truth-requires
put_truth-requires g c = search writing

pub returns-in-Some : goal.returns-in-Some
returns-in-Some g c = search (put_truth, writing)

pub returns-in-None : goal.returns-in-None
returns-in-None g c = search (put_no_truth, put_none, writing)
