-- `values::put::put_boolean_xml` meets its contract.
use Rattle.sink.specs.laws.Sink.{writing}
use Rattle.values.specs.laws.PutValue.{put_truth, put_no_truth}
use Rattle.values.proofs.put.put_boolean_xml.Goals as goal

pub returns-in-Some : goal.returns-in-Some
returns-in-Some g c = put_truth _ c.read_boolean.ensures c.in-Some.is c.put_boolean.ensures

pub returns-in-None : goal.returns-in-None
returns-in-None g c = put_no_truth _ c.read_boolean.ensures c.in-None.is (search writing)
