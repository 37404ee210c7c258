-- `write_xml_value::put_piece_xml` meets its contract.
use Rattle.sink.specs.laws.Sink.{writing}
use Rattle.write_xml_value.specs.laws.PutRule.{put_listed, put_single}
use Rattle.write_xml_value.proofs.rule.put_piece_xml.Goals as goal

pub value_at-v-requires : goal.value_at-v-requires
value_at-v-requires g c = c.requires

pub is_list_part-listed-requires : goal.is_list_part-listed-requires
is_list_part-listed-requires g c = search writing

pub put_items_xml-requires : goal.put_items_xml-requires
put_items_xml-requires g c = c.value_at-v.ensures.1

pub shape_of-out-then-listed : goal.shape_of-out-then-listed
shape_of-out-then-listed g c = search writing

pub returns-then-listed : goal.returns-then-listed
returns-then-listed g c = put_listed _ _ _ c.is_list_part-listed.ensures c.value_at-v.ensures.0 c.if-listed.true c.put_items_xml.ensures

pub put_item_xml-requires : goal.put_item_xml-requires
put_item_xml-requires g c = search writing

pub shape_of-out : goal.shape_of-out
shape_of-out g c = search writing

pub returns : goal.returns
returns g c = put_single _ _ _ c.is_list_part-listed.ensures c.value_at-v.ensures.0 c.if-listed.false c.put_item_xml.ensures
