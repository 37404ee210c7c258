-- `write_jcal_value::value::put_rule_json` meets its contract.
use Rattle.sink.specs.laws.Sink.{writing}
use Rattle.write_jcal_value.proofs.value.put_rule_json.Goals as goal

pub put-p-requires : goal.put-p-requires
put-p-requires g c = let cut = g.met.E.Cuttable.cut in search writing

pub put_parts_json-q-requires : goal.put_parts_json-q-requires
put_parts_json-q-requires g c = let cut = g.met.E.Cuttable.cut in search writing

pub put-requires : goal.put-requires
put-requires g c = let cut = g.met.E.Cuttable.cut in search writing

pub shape_of-out : goal.shape_of-out
shape_of-out g c = let cut = g.met.E.Cuttable.cut in search writing

pub returns : goal.returns
returns g c = let cut = g.met.E.Cuttable.cut in search writing
