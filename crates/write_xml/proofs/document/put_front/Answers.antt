-- `write_xml::document::put_front` meets its contract.
use Rattle.sink.specs.laws.Sink.{writing}
use Rattle.write_xml.proofs.document.put_front.Goals as goal

pub put_declaration-a-requires : goal.put_declaration-a-requires
put_declaration-a-requires c = search writing

pub put-b-requires : goal.put-b-requires
put-b-requires c = search writing

pub put_root_start-requires : goal.put_root_start-requires
put_root_start-requires c = search writing

pub shape_of-out : goal.shape_of-out
shape_of-out c = search writing

pub returns : goal.returns
returns c = search writing
