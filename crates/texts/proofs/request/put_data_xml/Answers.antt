-- `texts::put_data_xml` meets its contract.
use Rattle.sink.specs.laws.Sink.{writing}
use Rattle.texts.specs.laws.StatusXml.{put_data, put_no_data}
use Rattle.texts.proofs.request.put_data_xml.Goals as goal

pub returns-then-n-eq-END : goal.returns-then-n-eq-END
returns-then-n-eq-END g c = search (put_no_data, writing)

pub returns : goal.returns
returns g c = search (put_data, writing)
