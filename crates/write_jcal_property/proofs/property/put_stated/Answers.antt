-- `write_jcal_property::property::put_stated` meets its contract.
use lib.Seq.{length-take-le}
use borrow.Author.Rules.{rules}
use Rattle.write_jcal_property.specs.laws.Property.{put_stated}
use Rattle.sink.specs.laws.Sink.{writing}
use Rattle.write_jcal_property.proofs.property.put_stated.Goals as goal

pub slice_bounds-row_of-end : goal.slice_bounds-row_of-end
slice_bounds-row_of-end g c = let cut = g.met.E.Cuttable.cut in search (length-take-le, rules)

pub row_of-row-requires : goal.row_of-row-requires
row_of-row-requires g c = let cut = g.met.E.Cuttable.cut in search writing

pub stated_type-requires : goal.stated_type-requires
stated_type-requires g c = let cut = g.met.E.Cuttable.cut in search writing

pub put_values-requires : goal.put_values-requires
put_values-requires g c = let cut = g.met.E.Cuttable.cut in search writing

pub shape_of-out : goal.shape_of-out
shape_of-out g c = let cut = g.met.E.Cuttable.cut in search writing

pub returns : goal.returns
returns g c = put_stated c.args.k _ c.args.l.value c.row_of-row.ensures c.stated_type.ensures c.unwrap_or-stated.ensures c.put_values.ensures
