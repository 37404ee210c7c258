-- `write_text_jcal_values::array_at` meets its contract. Assumes nothing.
use Rattle.write_text_jcal_values.specs.laws.Elements.{array_here, array_none}
use Rattle.sink.specs.laws.Sink.{writing}
use Rattle.write_text_jcal_values.proofs.elements.array_at.Goals as goal

pub element_at-h-requires : goal.element_at-h-requires
element_at-h-requires c = search writing

pub is_array-array-requires : goal.is_array-array-requires
is_array-array-requires c = search writing

pub returns-then-array : goal.returns-then-array
returns-then-array c = array_here c.element_at-h.ensures c.is_array-array.ensures c.if-array.true

pub returns : goal.returns
returns c = array_none c.element_at-h.ensures c.is_array-array.ensures c.if-array.false
