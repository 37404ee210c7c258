-- `write_jcal_value::value::put_recur_json` meets its contract.
use Rattle.write_jcal_value.specs.laws.PutValue.{put_recur, put_no_recur}
use Rattle.sink.specs.laws.Sink.{writing}
use Rattle.write_jcal_value.proofs.value.put_recur_json.Goals as goal

pub read_parts-requires : goal.read_parts-requires
read_parts-requires g c = let cut = g.met.E.Cuttable.cut in search writing

pub put_rule_json-requires : goal.put_rule_json-requires
put_rule_json-requires g c = c.read_parts.ensures.standing _ c.in-Some.is

pub returns-in-Some : goal.returns-in-Some
returns-in-Some g c = let cut = g.met.E.Cuttable.cut in search (put_recur, writing)

pub returns-in-None : goal.returns-in-None
returns-in-None g c = put_no_recur c.read_parts.ensures c.in-None.is (search writing)
