-- `write_xml_value::put_period_xml` meets its contract.
use Rattle.sink.specs.laws.Sink.{◌▷◌, writing}
use Rattle.write_xml_value.proofs.period.put_period_xml.Goals as goal

pub put_start_tag-a-requires : goal.put_start_tag-a-requires
put_start_tag-a-requires g c = search writing

pub put_start_element-b-requires : goal.put_start_element-b-requires
put_start_element-b-requires g c = search writing

pub put_end_element-c-requires : goal.put_end_element-c-requires
put_end_element-c-requires g c = search writing

pub put_end_tag-requires : goal.put_end_tag-requires
put_end_tag-requires g c = search writing

pub shape_of-out : goal.shape_of-out
shape_of-out g c = search writing

pub returns : goal.returns
returns g c = c.put_start_tag-a.ensures ▷ ((c.put_start_element-b.ensures ▷ c.put_end_element-c.ensures) ▷ c.put_end_tag.ensures)
