-- `write_text_jcal_values::put_one_text` meets its contract. Assumes nothing.
use Rattle.write_text_jcal_values.specs.laws.Own.{text_put}
use Rattle.sink.specs.laws.Sink.{◌▷◌}
use native.Mathlib.Omega.{arith}
use Rattle.sink.specs.laws.Sink.{writing}
use Rattle.write_text_jcal_values.proofs.own.put_one_text.Goals as goal

pub put_between-a-requires : goal.put_between-a-requires
put_between-a-requires c = search writing

pub overflow_add-h : goal.overflow_add-h
overflow_add-h c = omega (arith, c.requires.0, c.requires.1.begins, c.requires.1.inside)

pub overflow_mul-h : goal.overflow_mul-h
overflow_mul-h c = omega (arith, c.requires.0, c.requires.1.begins, c.requires.1.inside)

pub put_text_escaped-requires : goal.put_text_escaped-requires
put_text_escaped-requires c = search writing

pub shape_of-out : goal.shape_of-out
shape_of-out c = search writing

pub returns : goal.returns
returns c = λ l e. c.put_between-a.ensures ▷ text_put c.args.s.now c.args.h c.put_text_escaped.ensures l e
