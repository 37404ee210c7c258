-- `write_xml_parameters::parameter::put_own` meets its contract.
use Rattle.write_xml_parameters.specs.laws.Parts.{put_value_name, put_other_name}
use Rattle.sink.specs.laws.Sink.{writing}
use Rattle.write_xml_parameters.proofs.parameter.put_own.Goals as goal

pub is_word_any_case-value-requires : goal.is_word_any_case-value-requires
is_word_any_case-value-requires g c = let cut = g.met.E.Cuttable.cut in search writing

pub returns-then-value : goal.returns-then-value
returns-then-value g c = let cut = g.met.E.Cuttable.cut in search (put_value_name, writing)

pub put_parameter-requires : goal.put_parameter-requires
put_parameter-requires g c = let cut = g.met.E.Cuttable.cut in search writing

pub shape_of-out : goal.shape_of-out
shape_of-out g c = let cut = g.met.E.Cuttable.cut in search writing

pub returns : goal.returns
returns g c = let cut = g.met.E.Cuttable.cut in search (put_other_name, writing)
