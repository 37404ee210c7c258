-- `write_jcal_parameters::value::put_several` meets its contract.
use Rattle.sink.specs.laws.Sink.{writing}
use Rattle.write_jcal_parameters.proofs.value.put_several.Goals as goal

pub put-a-requires : goal.put-a-requires
put-a-requires g c = let cut = g.met.E.Cuttable.cut in search writing

pub put_cut_value-b-requires : goal.put_cut_value-b-requires
put_cut_value-b-requires g c = let cut = g.met.E.Cuttable.cut in search writing

pub put_next_values-c-requires : goal.put_next_values-c-requires
put_next_values-c-requires g c = let cut = g.met.E.Cuttable.cut in search writing

pub put-requires : goal.put-requires
put-requires g c = let cut = g.met.E.Cuttable.cut in search writing

pub shape_of-out : goal.shape_of-out
shape_of-out g c = let cut = g.met.E.Cuttable.cut in search writing

pub returns : goal.returns
returns g c = let cut = g.met.E.Cuttable.cut in search writing
