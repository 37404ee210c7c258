-- `write_xml_value::put_recur_element` meets its contract.
use Rattle.write_xml_value.specs.laws.PutElement.{put_recur, put_no_recur}
use Rattle.sink.specs.laws.Sink.{writing}
use Rattle.write_xml_value.proofs.value.put_recur_element.Goals as goal

pub read_parts-requires : goal.read_parts-requires
read_parts-requires g c = let cut = g.met.E.Cuttable.cut in search writing

pub put_recur_xml-requires : goal.put_recur_xml-requires
put_recur_xml-requires g c = c.read_parts.ensures.standing _ c.in-Some.is

pub returns-in-Some : goal.returns-in-Some
returns-in-Some g c = put_recur c.read_parts.ensures c.in-Some.is c.put_recur_xml.ensures

pub returns-in-None : goal.returns-in-None
returns-in-None g c = put_no_recur c.read_parts.ensures c.in-None.is (search writing)
