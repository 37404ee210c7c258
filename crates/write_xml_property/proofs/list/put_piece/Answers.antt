-- `write_xml_property::put_piece` meets its contract.
use lib.Seq.{length-take-le}
use borrow.Author.Rules.{rules}
use Rattle.sink.specs.laws.Sink.{writing}
use Rattle.write_xml_property.proofs.list.put_piece.Goals as goal

pub slice_bounds-put_value_element-end : goal.slice_bounds-put_value_element-end
slice_bounds-put_value_element-end g c = let cut = g.met.E.Cuttable.cut in search (length-take-le, rules)

pub put_value_element-requires : goal.put_value_element-requires
put_value_element-requires g c = let cut = g.met.E.Cuttable.cut in search writing

pub shape_of-out : goal.shape_of-out
shape_of-out g c = let cut = g.met.E.Cuttable.cut in search writing

pub returns : goal.returns
returns g c = let cut = g.met.E.Cuttable.cut in search writing
