-- `write_xml::properties::put_properties_element` meets its contract.
use borrow.Author.Rules.{rules}
use Rattle.sink.specs.laws.Sink.{writing}
use Rattle.write_xml.specs.laws.Places.{element_put}
use Rattle.write_xml.proofs.properties.put_properties_element.Goals as goal

pub put_start_tag-a-requires : goal.put_start_tag-a-requires
put_start_tag-a-requires g c = search writing

pub put_properties-b-requires : goal.put_properties-b-requires
put_properties-b-requires g c = search writing

pub put_end_tag-c-requires : goal.put_end_tag-c-requires
put_end_tag-c-requires g c = search writing

pub shape_of-out : goal.shape_of-out
shape_of-out g c = search writing

pub returns : goal.returns
returns g c = search (element_put, rules)
