-- `write_text_jcal_values::put_rule` meets its contract. Assumes nothing.
use Rattle.write_text_jcal_values.specs.laws.Rules.{rule_put}
use Rattle.sink.specs.laws.Sink.{writing}
use Rattle.write_text_jcal_values.proofs.rule.put_rule.Goals as goal

pub put_parts-requires : goal.put_parts-requires
put_parts-requires c = search writing

pub shape_of-out : goal.shape_of-out
shape_of-out c = search writing

pub returns : goal.returns
returns c = rule_put c.args.s.now c.args.inside c.put_parts.ensures
