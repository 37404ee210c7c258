-- `write_xml_property::put_latitude` meets its contract.
use Rattle.sink.specs.laws.Sink.{writing}
use Rattle.write_xml_property.proofs.geo.put_latitude.Goals as goal

pub put_start_tag-a-requires : goal.put_start_tag-a-requires
put_start_tag-a-requires g c = search writing

pub put_float_to-b-requires : goal.put_float_to-b-requires
put_float_to-b-requires g c = search writing

pub put_end_tag-requires : goal.put_end_tag-requires
put_end_tag-requires g c = search writing

pub shape_of-out : goal.shape_of-out
shape_of-out g c = search writing

pub returns : goal.returns
returns g c = search writing
