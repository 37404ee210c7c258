-- `write_xml_parameters::parameter::put_parameter` meets its contract.
use Rattle.write_xml_parameters.specs.laws.Parts.{put_parameter}
use Rattle.sink.specs.laws.Sink.{writing}
use Rattle.write_xml_parameters.proofs.parameter.put_parameter.Goals as goal

pub parameter_number-q-requires : goal.parameter_number-q-requires
parameter_number-q-requires g c = let cut = g.met.E.Cuttable.cut in search writing

pub put_small_start-a-requires : goal.put_small_start-a-requires
put_small_start-a-requires g c = let cut = g.met.E.Cuttable.cut in search writing

pub put_values-b-requires : goal.put_values-b-requires
put_values-b-requires g c = let cut = g.met.E.Cuttable.cut in search writing

pub put_small_end-requires : goal.put_small_end-requires
put_small_end-requires g c = let cut = g.met.E.Cuttable.cut in search writing

pub shape_of-out : goal.shape_of-out
shape_of-out g c = let cut = g.met.E.Cuttable.cut in search writing

pub returns : goal.returns
returns g c = let cut = g.met.E.Cuttable.cut in search (put_parameter, writing)
