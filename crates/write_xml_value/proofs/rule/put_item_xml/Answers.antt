-- `write_xml_value::put_item_xml` meets its contract.
use Rattle.sink.specs.laws.Sink.{writing}
use Rattle.write_xml_value.proofs.rule.put_item_xml.Goals as goal

pub put_part_start-a-requires : goal.put_part_start-a-requires
put_part_start-a-requires g c = search writing

pub put_shown-b-requires : goal.put_shown-b-requires
put_shown-b-requires g c = search writing

pub put_part_end-requires : goal.put_part_end-requires
put_part_end-requires g c = search writing

pub shape_of-out : goal.shape_of-out
shape_of-out g c = search writing

pub returns : goal.returns
returns g c = search writing
