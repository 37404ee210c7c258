-- `write_xml::document::put_attribute` meets its contract.
use Rattle.sink.specs.laws.Sink.{writing}
use Rattle.write_xml.proofs.document.put_attribute.Goals as goal

pub put_all-a-requires : goal.put_all-a-requires
put_all-a-requires c = search writing

pub put_all-b-requires : goal.put_all-b-requires
put_all-b-requires c = search writing

pub put_all-c-requires : goal.put_all-c-requires
put_all-c-requires c = search writing

pub put_quoted-requires : goal.put_quoted-requires
put_quoted-requires c = search writing

pub shape_of-out : goal.shape_of-out
shape_of-out c = search writing

pub returns : goal.returns
returns c = search writing
