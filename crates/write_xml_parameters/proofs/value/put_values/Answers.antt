-- `write_xml_parameters::value::put_values` meets its contract.
use Rattle.write_xml_parameters.specs.laws.Parts.{put_first, put_no_first}
use Rattle.sink.specs.laws.Sink.{writing}
use Rattle.write_xml_parameters.proofs.value.put_values.Goals as goal

pub param_value-requires : goal.param_value-requires
param_value-requires g c = let cut = g.met.E.Cuttable.cut in search writing

pub put_cut_value-a-requires : goal.put_cut_value-a-requires
put_cut_value-a-requires g c = let cut = g.met.E.Cuttable.cut in search writing

pub put_next_values-requires : goal.put_next_values-requires
put_next_values-requires g c = let cut = g.met.E.Cuttable.cut in search writing

pub returns-in_default : goal.returns-in_default
returns-in_default g c = put_no_first _ _ g.met.E.Cuttable.cut c.param_value.ensures c.in_default.is (search writing)

pub returns : goal.returns
returns g c = put_first _ _ g.met.E.Cuttable.cut c.param_value.ensures c.in-Ok.is c.put_cut_value-a.ensures c.put_next_values.ensures
