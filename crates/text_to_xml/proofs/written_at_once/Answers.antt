-- `text_to_xml::written_at_once` meets its contract.
use borrow.Author.Rules.{rules}
use Rattle.calls.specs.laws.Answered.{done_at_once}
use Rattle.text_to_xml.specs.laws.Steps.{xml_counted, xml_roomy}
use Rattle.text_to_xml.proofs.written_at_once.Goals as goal

pub returns : goal.returns
returns g c = done_at_once (xml_counted _ _ _ g.met.E.Cuttable.cut c.requires.0) (xml_roomy _ _ _ g.met.E.Cuttable.cut c.requires.1) c.put_document.ensures
