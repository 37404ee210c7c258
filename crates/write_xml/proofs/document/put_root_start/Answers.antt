-- `write_xml::document::put_root_start` meets its contract.
use Rattle.sink.specs.laws.Sink.{writing}
use Rattle.write_xml.specs.laws.Fronts.{root_put}
use Rattle.write_xml.proofs.document.put_root_start.Goals as goal

pub put_all-a-requires : goal.put_all-a-requires
put_all-a-requires c = search writing

pub put_all-b-requires : goal.put_all-b-requires
put_all-b-requires c = search writing

pub put_attribute-c-requires : goal.put_attribute-c-requires
put_attribute-c-requires c = search writing

pub put_all-requires : goal.put_all-requires
put_all-requires c = search writing

pub shape_of-out : goal.shape_of-out
shape_of-out c = search writing

pub returns : goal.returns
returns c = search (root_put, writing)
