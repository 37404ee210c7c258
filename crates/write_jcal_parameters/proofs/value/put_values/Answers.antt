-- `write_jcal_parameters::value::put_values` meets its contract.
use Rattle.write_jcal_parameters.specs.laws.Parts.{put_several, put_alone, put_no_first}
use Rattle.sink.specs.laws.Sink.{writing}
use Rattle.write_jcal_parameters.proofs.value.put_values.Goals as goal

pub param_value-requires : goal.param_value-requires
param_value-requires g c = let cut = g.met.E.Cuttable.cut in search writing

pub has_next_value-requires : goal.has_next_value-requires
has_next_value-requires g c = let cut = g.met.E.Cuttable.cut in search writing

pub put_several-requires : goal.put_several-requires
put_several-requires g c = let cut = g.met.E.Cuttable.cut in search writing

pub shape_of-out-then-has_next_value : goal.shape_of-out-then-has_next_value
shape_of-out-then-has_next_value g c = let cut = g.met.E.Cuttable.cut in search writing

pub returns-then-has_next_value : goal.returns-then-has_next_value
returns-then-has_next_value g c = put_several _ _ g.met.E.Cuttable.cut c.param_value.ensures c.in-Ok.is c.has_next_value.ensures c.if-has_next_value.true c.put_several.ensures

pub put_cut_value-requires : goal.put_cut_value-requires
put_cut_value-requires g c = let cut = g.met.E.Cuttable.cut in search writing

pub returns : goal.returns
returns g c = put_alone _ _ g.met.E.Cuttable.cut c.param_value.ensures c.in-Ok.is c.has_next_value.ensures c.if-has_next_value.false c.put_cut_value.ensures

pub put_all-requires : goal.put_all-requires
put_all-requires g c = let cut = g.met.E.Cuttable.cut in search writing

pub returns-in_default : goal.returns-in_default
returns-in_default g c = put_no_first _ _ g.met.E.Cuttable.cut c.param_value.ensures c.in_default.is c.put_all.ensures
