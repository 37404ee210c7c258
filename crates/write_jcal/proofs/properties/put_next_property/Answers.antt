-- `write_jcal::properties::put_next_property` meets its contract.
use Rattle.sink.specs.laws.Sink.{writing}
use Rattle.write_jcal.proofs.properties.put_next_property.Goals as goal

pub put_separator-a-requires : goal.put_separator-a-requires
put_separator-a-requires g c = let cut = g.met.E.Cuttable.cut in search writing

pub put_property-requires : goal.put_property-requires
put_property-requires g c = let cut = g.met.E.Cuttable.cut in search writing

pub shape_of-out : goal.shape_of-out
shape_of-out g c = let cut = g.met.E.Cuttable.cut in search writing

pub returns : goal.returns
returns g c = let cut = g.met.E.Cuttable.cut in search writing
