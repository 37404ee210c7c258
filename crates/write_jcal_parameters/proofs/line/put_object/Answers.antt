-- `write_jcal_parameters::line::put_object` meets its contract.
use Rattle.sink.specs.laws.Sink.{writing}
use Rattle.write_jcal_parameters.proofs.line.put_object.Goals as goal

pub put-a-requires : goal.put-a-requires
put-a-requires g c = let cut = g.met.E.Cuttable.cut in search writing

pub put_each-b-requires : goal.put_each-b-requires
put_each-b-requires g c = let cut = g.met.E.Cuttable.cut in search writing

pub put-requires : goal.put-requires
put-requires g c = let cut = g.met.E.Cuttable.cut in search writing

pub shape_of-out : goal.shape_of-out
shape_of-out g c = let cut = g.met.E.Cuttable.cut in search writing

pub returns : goal.returns
returns g c = let cut = g.met.E.Cuttable.cut in search writing
