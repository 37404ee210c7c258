-- `write_xml_value::put_type_start` meets its contract.
use Rattle.sink.specs.laws.Sink.{writing}
use Rattle.write_xml_value.proofs.tag.put_type_start.Goals as goal

pub put_all-a-requires : goal.put_all-a-requires
put_all-a-requires c = search writing

pub put_type_label-b-requires : goal.put_type_label-b-requires
put_type_label-b-requires c = search writing

pub put_all-requires : goal.put_all-requires
put_all-requires c = search writing

pub shape_of-out : goal.shape_of-out
shape_of-out c = search writing

pub returns : goal.returns
returns c = search writing
