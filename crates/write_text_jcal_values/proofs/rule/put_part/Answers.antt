-- `write_text_jcal_values::put_part` meets its contract. Assumes nothing.
use Rattle.sink.specs.laws.Sink.{◌▷◌}
use native.Mathlib.Omega.{arith}
use Rattle.sink.specs.laws.Sink.{writing}
use Rattle.write_text_jcal_values.proofs.rule.put_part.Goals as goal

pub put_between-a-requires : goal.put_between-a-requires
put_between-a-requires c = search writing

pub overflow_add-name : goal.overflow_add-name
overflow_add-name c = omega (arith, c.requires)

pub overflow_mul-name : goal.overflow_mul-name
overflow_mul-name c = omega (arith, c.requires)

pub put_upper-b-requires : goal.put_upper-b-requires
put_upper-b-requires c = search writing

pub put_all-c-requires : goal.put_all-c-requires
put_all-c-requires c = search writing

pub put_items-requires : goal.put_items-requires
put_items-requires c = c.requires.0

pub shape_of-out : goal.shape_of-out
shape_of-out c = search writing

pub returns : goal.returns
returns c = λ is e. c.put_between-a.ensures ▷ c.put_upper-b.ensures ▷ c.put_all-c.ensures ▷ c.put_items.ensures is e
