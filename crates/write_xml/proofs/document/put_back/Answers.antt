-- `write_xml::document::put_back` meets its contract.
use Rattle.sink.specs.laws.Sink.{writing}
use Rattle.write_xml.specs.laws.Fronts.{back_put}
use Rattle.write_xml.proofs.document.put_back.Goals as goal

pub put_end_tag-a-requires : goal.put_end_tag-a-requires
put_end_tag-a-requires c = search writing

pub put-requires : goal.put-requires
put-requires c = search writing

pub shape_of-out : goal.shape_of-out
shape_of-out c = search writing

pub returns : goal.returns
returns c = search (back_put, writing)
