-- `write_jcal_value::value::put_value_json` meets its contract.
use Rattle.sink.specs.laws.Sink.{writing}
use Rattle.write_jcal_value.specs.laws.PutValue.{put_at}
use Rattle.write_jcal_value.proofs.value.put_value_json.Goals as goal

pub put_period_json-requires : goal.put_period_json-requires
put_period_json-requires g c = search writing

pub shape_of-out-then-t-eq-PERIOD : goal.shape_of-out-then-t-eq-PERIOD
shape_of-out-then-t-eq-PERIOD g c = search writing

pub returns-then-t-eq-PERIOD : goal.returns-then-t-eq-PERIOD
returns-then-t-eq-PERIOD g c = put_at c.args.t 8 _ c.if-t-eq-PERIOD.true c.put_period_json.ensures

pub put_cut_rule_json-requires : goal.put_cut_rule_json-requires
put_cut_rule_json-requires g c = c.requires c.if-t-eq-RECUR.true

pub shape_of-out-then-t-eq-RECUR : goal.shape_of-out-then-t-eq-RECUR
shape_of-out-then-t-eq-RECUR g c = search writing

pub returns-then-t-eq-RECUR : goal.returns-then-t-eq-RECUR
returns-then-t-eq-RECUR g c = put_at c.args.t 9 _ c.if-t-eq-RECUR.true c.put_cut_rule_json.ensures

pub put_plain_json-requires : goal.put_plain_json-requires
put_plain_json-requires g c = (c.if-t-eq-PERIOD.false, c.if-t-eq-RECUR.false)

pub shape_of-out : goal.shape_of-out
shape_of-out g c = search writing

pub returns : goal.returns
returns g c = search writing
