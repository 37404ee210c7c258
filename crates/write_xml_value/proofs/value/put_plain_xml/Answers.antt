-- `write_xml_value::put_plain_xml` meets its contract.
use Rattle.sink.specs.laws.Sink.{writing}
use Rattle.write_xml_value.proofs.value.put_plain_xml.Goals as goal

pub put_type_start-p-requires : goal.put_type_start-p-requires
put_type_start-p-requires g c = search writing

pub put_value_xml-q-requires : goal.put_value_xml-q-requires
put_value_xml-q-requires g c = search writing

pub put_type_end-requires : goal.put_type_end-requires
put_type_end-requires g c = search writing

pub shape_of-out : goal.shape_of-out
shape_of-out g c = search writing

pub returns : goal.returns
returns g c = search writing
