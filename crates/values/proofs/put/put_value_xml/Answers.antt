-- `values::put::put_value_xml` meets its contract.
use Rattle.sink.specs.laws.Sink.{writing}
use Rattle.values.specs.laws.PutValue.{put_value}
use Rattle.values.proofs.put.put_value_xml.Goals as goal

pub returns : goal.returns
returns g c = search (put_value, writing)
