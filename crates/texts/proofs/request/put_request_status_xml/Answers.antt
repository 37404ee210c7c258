-- `texts::put_request_status_xml` meets its contract.
use Rattle.sink.specs.laws.Sink.{writing}
use Rattle.texts.specs.laws.StatusXml.{put_status, put_no_status}
use Rattle.texts.proofs.request.put_request_status_xml.Goals as goal

pub returns-in_default : goal.returns-in_default
returns-in_default g c = let cut = g.met.E.Cuttable.cut in search (put_no_status, writing)

pub returns : goal.returns
returns g c = let cut = g.met.E.Cuttable.cut in search (put_status, writing)
