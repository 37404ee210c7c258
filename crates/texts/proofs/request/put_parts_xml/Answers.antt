-- `texts::put_parts_xml` meets its contract.
use Rattle.sink.specs.laws.Sink.{writing}
use Rattle.texts.proofs.request.put_parts_xml.Goals as goal

pub returns : goal.returns
returns g c = search writing
