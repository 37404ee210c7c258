-- `texts::put_texts_xml` meets its contract.
use Rattle.sink.specs.laws.Sink.{writing}
use Rattle.texts.specs.laws.Elements.{put_no_texts}
use Rattle.texts.proofs.elements.put_texts_xml.Goals as goal

pub returns : goal.returns
returns g c = let cut = g.met.E.Cuttable.cut in search (put_no_texts, writing)
