-- `write_jcal_property::property::put_content` meets its contract.
use Rattle.sink.specs.laws.Sink.{writing}
use Rattle.write_jcal_property.proofs.property.put_content.Goals as goal

pub put_parameters-a-requires : goal.put_parameters-a-requires
put_parameters-a-requires g c = let cut = g.met.E.Cuttable.cut in search writing

pub put-b-requires : goal.put-b-requires
put-b-requires g c = let cut = g.met.E.Cuttable.cut in search writing

pub put_stated-requires : goal.put_stated-requires
put_stated-requires g c = let cut = g.met.E.Cuttable.cut in search writing

pub shape_of-out : goal.shape_of-out
shape_of-out g c = let cut = g.met.E.Cuttable.cut in search writing

pub returns : goal.returns
returns g c = let cut = g.met.E.Cuttable.cut in search writing
