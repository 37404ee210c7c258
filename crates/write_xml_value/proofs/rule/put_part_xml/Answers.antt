-- `write_xml_value::put_part_xml` meets its contract.
use Rattle.recur.specs.laws.PieceLaws.{cut_count, cut_inside}
use Rattle.write_xml_value.specs.laws.PutRule.{put_found, put_missing, begin_inside}
use Rattle.sink.specs.laws.Sink.{writing}
use Rattle.write_xml_value.proofs.rule.put_part_xml.Goals as goal

pub returns-in_default : goal.returns-in_default
returns-in_default g c = put_missing _ _ _ _ c.in_default.is (search writing)

pub byte_end-e-requires : goal.byte_end-e-requires
byte_end-e-requires g c = record { cut = g.met.E.Cuttable.cut; most = begin_inside _ c.requires c.in-Some.is }

pub slice_bounds-put_piece_xml-end : goal.slice_bounds-put_piece_xml-end
slice_bounds-put_piece_xml-end g c = cut_count c.byte_end-e.ensures

pub put_piece_xml-requires : goal.put_piece_xml-requires
put_piece_xml-requires g c = cut_inside c.byte_end-e.ensures

pub shape_of-out : goal.shape_of-out
shape_of-out g c = let cut = g.met.E.Cuttable.cut in search writing

pub returns : goal.returns
returns g c = put_found _ _ _ _ c.in-Some.is c.byte_end-e.ensures c.put_piece_xml.ensures
