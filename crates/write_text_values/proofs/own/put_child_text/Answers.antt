-- `write_text_values::own::put_child_text` meets its contract.
use native.Mathlib.Omega.{arith}
use Rattle.texts.specs.Text.{write_text}
use Rattle.write_text_values.specs.laws.Children.{put_there}
use Rattle.sink.specs.laws.Sink.{writing}
use Rattle.write_text_values.proofs.own.put_child_text.Goals as goal

pub child_inside-i-requires : goal.child_inside-i-requires
child_inside-i-requires c = search writing

pub overflow_mul-i : goal.overflow_mul-i
overflow_mul-i c = omega (arith, c.child_inside-i.ensures.within, c.requires)

pub put_text_escaped-requires : goal.put_text_escaped-requires
put_text_escaped-requires c = search writing

pub shape_of-out : goal.shape_of-out
shape_of-out c = search writing

pub returns : goal.returns
returns c = put_there write_text c.child_inside-i.ensures c.put_text_escaped.ensures
