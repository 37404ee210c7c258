-- `write_text_values::rule::put_one_item` meets its contract.
use native.Mathlib.Omega.{arith}
use Rattle.write_text_values.specs.laws.PutRule.{put_item_text}
use Rattle.sink.specs.laws.Sink.{◌▷◌, writing}
use Rattle.write_text_values.proofs.rule.put_one_item.Goals as goal

pub put_between-a-requires : goal.put_between-a-requires
put_between-a-requires c = search writing

pub overflow_mul-i : goal.overflow_mul-i
overflow_mul-i c = omega (arith, c.requires)

pub put_item-requires : goal.put_item-requires
put_item-requires c = search writing

pub shape_of-out : goal.shape_of-out
shape_of-out c = search writing

pub returns : goal.returns
returns c = c.put_between-a.ensures ▷ put_item_text c.args.p c.args.s.now c.args.i c.put_item.ensures
