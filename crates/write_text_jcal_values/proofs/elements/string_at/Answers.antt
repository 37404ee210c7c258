-- `write_text_jcal_values::string_at` meets its contract. Assumes nothing.
use native.Mathlib.Omega.{arith}
use Rattle.write_text_jcal_values.specs.laws.Elements.{string_here, string_none, string_place}
use Rattle.sink.specs.laws.Sink.{writing}
use Rattle.write_text_jcal_values.proofs.elements.string_at.Goals as goal

pub element_at-h-requires : goal.element_at-h-requires
element_at-h-requires c = search writing

pub is_string-string-requires : goal.is_string-string-requires
is_string-string-requires c = search writing

pub overflow_add-result : goal.overflow_add-result
overflow_add-result c = omega (arith, string_place c.element_at-h.ensures c.is_string-string.ensures c.if-string.true, c.requires)

pub overflow_mul-result : goal.overflow_mul-result
overflow_mul-result c = omega (arith, string_place c.element_at-h.ensures c.is_string-string.ensures c.if-string.true, c.requires)

pub returns-then-string : goal.returns-then-string
returns-then-string c = string_here c.element_at-h.ensures c.is_string-string.ensures c.if-string.true

pub overflow_mul-result-2 : goal.overflow_mul-result-2
overflow_mul-result-2 c = omega (arith, c.requires)

pub returns : goal.returns
returns c = string_none c.element_at-h.ensures c.is_string-string.ensures c.if-string.false
