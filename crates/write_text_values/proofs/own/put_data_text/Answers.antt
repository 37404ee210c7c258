-- `write_text_values::own::put_data_text` meets its contract.
use native.Mathlib.Omega.{arith}
use Rattle.texts.specs.Text.{write_text}
use Rattle.write_text_values.specs.laws.Children.{put_chars}
use Rattle.sink.specs.laws.Sink.{◌▷◌, writing}
use Rattle.write_text_values.proofs.own.put_data_text.Goals as goal

pub put_all-a-requires : goal.put_all-a-requires
put_all-a-requires c = search writing

pub overflow_mul-i : goal.overflow_mul-i
overflow_mul-i c = omega (arith, c.requires)

pub put_text_escaped-requires : goal.put_text_escaped-requires
put_text_escaped-requires c = search writing

pub shape_of-out : goal.shape_of-out
shape_of-out c = search writing

pub returns : goal.returns
returns c = c.put_all-a.ensures ▷ put_chars write_text c.args.s.now c.args.i c.put_text_escaped.ensures
