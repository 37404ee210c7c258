-- `write_xml_parameters::put_element` meets its contract. Assumes nothing.
use Rattle.sink.specs.laws.Sink.{writing}
use Rattle.write_xml_parameters.proofs.line.put_element.Goals as goal

pub put_start_tag-a-requires : goal.put_start_tag-a-requires
put_start_tag-a-requires g c = let cut = g.met.E.Cuttable.cut in search writing

pub put_each-b-requires : goal.put_each-b-requires
put_each-b-requires g c = let cut = g.met.E.Cuttable.cut in search writing

pub put_end_tag-requires : goal.put_end_tag-requires
put_end_tag-requires g c = let cut = g.met.E.Cuttable.cut in search writing

pub shape_of-out : goal.shape_of-out
shape_of-out g c = let cut = g.met.E.Cuttable.cut in search writing

pub returns : goal.returns
returns g c = let cut = g.met.E.Cuttable.cut in search writing
