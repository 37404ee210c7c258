-- `write_jcal_property::property::put_property` meets its contract.
use Rattle.sink.specs.laws.Sink.{writing}
use Rattle.write_jcal_property.proofs.property.put_property.Goals as goal

pub put_name-a-requires : goal.put_name-a-requires
put_name-a-requires g c = let cut = g.met.E.Cuttable.cut in search writing

pub put_content-b-requires : goal.put_content-b-requires
put_content-b-requires g c = let cut = g.met.E.Cuttable.cut in search writing

pub put-requires : goal.put-requires
put-requires g c = let cut = g.met.E.Cuttable.cut in search writing

pub shape_of-out : goal.shape_of-out
shape_of-out g c = let cut = g.met.E.Cuttable.cut in search writing

pub returns : goal.returns
returns g c = let cut = g.met.E.Cuttable.cut in search writing
