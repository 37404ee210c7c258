-- `write_xml_parameters::value::put_cut_value` meets its contract.
use native.Mathlib.Omega.{arith}
use lib.ListN.{length-take}
use Rattle.sink.specs.laws.Sink.{writing}
use Rattle.source.specs.laws.Facts.{decodes_same, decodes_over, decodes_when}
use Rattle.write_xml_parameters.specs.laws.Parts.{least_value}
use Rattle.write_xml_parameters.proofs.value.put_cut_value.Goals as goal

pub smaller-e-requires : goal.smaller-e-requires
smaller-e-requires g c = let cut = g.met.E.Cuttable.cut in search writing

pub slice_bounds-put_value-end : goal.slice_bounds-put_value-end
slice_bounds-put_value-end g c = simp length-take (omega arith)

pub put_value-requires : goal.put_value-requires
put_value-requires g c = let cut = g.met.E.Cuttable.cut in search writing

pub returns-in-Rfc5545 : goal.returns-in-Rfc5545
returns-in-Rfc5545 g c = let decodes = decodes_when c.in-Rfc5545.is (decodes_same g.E.Encoding.encoding) in search (least_value, writing)

pub returns-in-Rfc6868 : goal.returns-in-Rfc6868
returns-in-Rfc6868 g c = let decodes = decodes_when c.in-Rfc6868.is (decodes_over g.E.Encoding.encoding g.met.E.Cuttable.cut) in search (least_value, writing)
