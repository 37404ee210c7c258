-- `write_xml_value::put_plain_element` meets its contract.
use mathlib.Core.Path.{refl}
use Rattle.sink.specs.laws.Sink.{writing}
use Rattle.values.specs.laws.ValueAt.{good_value, value_plain}
use Rattle.write_xml_value.specs.laws.PutElement.{put_plain, put_no_plain}
use Rattle.write_xml_value.proofs.value.put_plain_element.Goals as goal

pub read_value-requires : goal.read_value-requires
read_value-requires g c = search writing

pub put_plain_xml-requires : goal.put_plain_xml-requires
put_plain_xml-requires g c = search writing

pub returns-in-Some : goal.returns-in-Some
returns-in-Some g c = put_plain c.args.t _ (good_value _ _ (value_plain c.args.t _ _ c.requires.1 c.read_value.ensures)) c.requires.0 c.requires.1 c.in-Some.is c.put_plain_xml.ensures

pub returns-in-None : goal.returns-in-None
returns-in-None g c = put_no_plain c.args.t _ (good_value _ _ (value_plain c.args.t _ _ c.requires.1 c.read_value.ensures)) c.in-None.is (search writing)
