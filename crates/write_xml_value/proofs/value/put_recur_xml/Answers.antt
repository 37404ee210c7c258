-- `write_xml_value::put_recur_xml` meets its contract.
use Rattle.sink.specs.laws.Sink.{writing}
use Rattle.write_xml_value.proofs.value.put_recur_xml.Goals as goal

pub put_start_tag-p-requires : goal.put_start_tag-p-requires
put_start_tag-p-requires g c = let cut = g.met.E.Cuttable.cut in search writing

pub put_parts_xml-q-requires : goal.put_parts_xml-q-requires
put_parts_xml-q-requires g c = c.requires

pub put_end_tag-requires : goal.put_end_tag-requires
put_end_tag-requires g c = let cut = g.met.E.Cuttable.cut in search writing

pub shape_of-out : goal.shape_of-out
shape_of-out g c = let cut = g.met.E.Cuttable.cut in search writing

pub returns : goal.returns
returns g c = let cut = g.met.E.Cuttable.cut in search writing
