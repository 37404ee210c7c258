-- `write_xml::document::put_declaration` meets its contract.
use Rattle.sink.specs.laws.Sink.{writing}
use Rattle.write_xml.specs.laws.Fronts.{declaration_put}
use Rattle.write_xml.proofs.document.put_declaration.Goals as goal

pub put_all-a-requires : goal.put_all-a-requires
put_all-a-requires c = search writing

pub put_attribute-b-requires : goal.put_attribute-b-requires
put_attribute-b-requires c = search writing

pub put_attribute-c-requires : goal.put_attribute-c-requires
put_attribute-c-requires c = search writing

pub put_all-requires : goal.put_all-requires
put_all-requires c = search writing

pub shape_of-out : goal.shape_of-out
shape_of-out c = search writing

pub returns : goal.returns
returns c = declaration_put c.put_all-a.ensures c.put_attribute-b.ensures c.put_attribute-c.ensures c.put_all.ensures
