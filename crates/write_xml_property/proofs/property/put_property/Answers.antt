-- `write_xml_property::put_property` meets its contract.
use lib.Seq.{length-take-le}
use borrow.Author.Rules.{rules}
use Rattle.sink.specs.laws.Sink.{writing}
use Rattle.write_xml_property.proofs.property.put_property.Goals as goal

pub slice_bounds-put_small_start-end : goal.slice_bounds-put_small_start-end
slice_bounds-put_small_start-end g c = let cut = g.met.E.Cuttable.cut in search (length-take-le, rules)

pub put_small_start-a-requires : goal.put_small_start-a-requires
put_small_start-a-requires g c = let cut = g.met.E.Cuttable.cut in search writing

pub put_content-b-requires : goal.put_content-b-requires
put_content-b-requires g c = let cut = g.met.E.Cuttable.cut in search writing

pub slice_bounds-put_small_end-end : goal.slice_bounds-put_small_end-end
slice_bounds-put_small_end-end g c = let cut = g.met.E.Cuttable.cut in search (length-take-le, rules)

pub put_small_end-requires : goal.put_small_end-requires
put_small_end-requires g c = let cut = g.met.E.Cuttable.cut in search writing

pub shape_of-out : goal.shape_of-out
shape_of-out g c = let cut = g.met.E.Cuttable.cut in search writing

pub returns : goal.returns
returns g c = let cut = g.met.E.Cuttable.cut in search writing
