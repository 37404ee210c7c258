-- `write_xml::parts::put_components_start` meets its contract.
use Rattle.sink.specs.laws.Sink.{writing}
use Rattle.write_xml.proofs.parts.put_components_start.Goals as goal

pub put_start_tag-requires : goal.put_start_tag-requires
put_start_tag-requires c = search writing

pub shape_of-out-then-there : goal.shape_of-out-then-there
shape_of-out-then-there c = search writing

pub returns-then-there : goal.returns-then-there
returns-then-there c = search writing

pub returns : goal.returns
returns c = search writing
