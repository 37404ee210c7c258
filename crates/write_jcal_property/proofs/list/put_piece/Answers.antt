-- `write_jcal_property::list::put_piece` meets its contract.
use lib.Seq.{length-take-le}
use borrow.Author.Rules.{rules}
use Rattle.sink.specs.laws.Sink.{writing}
use Rattle.write_jcal_property.proofs.list.put_piece.Goals as goal

pub slice_bounds-put_value_json-end : goal.slice_bounds-put_value_json-end
slice_bounds-put_value_json-end g c = let cut = g.met.E.Cuttable.cut in search (length-take-le, rules)

pub put_value_json-requires : goal.put_value_json-requires
put_value_json-requires g c = let cut = g.met.E.Cuttable.cut in search writing

pub shape_of-out : goal.shape_of-out
shape_of-out g c = let cut = g.met.E.Cuttable.cut in search writing

pub returns : goal.returns
returns g c = let cut = g.met.E.Cuttable.cut in search writing
