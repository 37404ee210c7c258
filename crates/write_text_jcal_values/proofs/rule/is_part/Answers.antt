-- `write_text_jcal_values::is_part` meets its contract. Assumes nothing.
use Rattle.write_text_jcal_values.specs.laws.Rules.{part_is}
use native.Mathlib.Omega.{arith}
use Rattle.sink.specs.laws.Sink.{writing}
use Rattle.write_text_jcal_values.proofs.rule.is_part.Goals as goal

pub overflow_add-place : goal.overflow_add-place
overflow_add-place c = omega (arith, c.requires)

pub overflow_mul-place : goal.overflow_mul-place
overflow_mul-place c = omega (arith, c.requires)

pub find_word-n-requires : goal.find_word-n-requires
find_word-n-requires c = search writing

pub returns : goal.returns
returns c = part_is _ _ c.requires.0 c.find_word-n.ensures
