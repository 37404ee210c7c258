-- `write_text_jcal_values::object_at` meets its contract. Assumes nothing.
use Rattle.write_text_jcal_values.specs.laws.Elements.{object_here, object_none}
use Rattle.sink.specs.laws.Sink.{writing}
use Rattle.write_text_jcal_values.proofs.elements.object_at.Goals as goal

pub element_at-h-requires : goal.element_at-h-requires
element_at-h-requires c = search writing

pub is_object-object-requires : goal.is_object-object-requires
is_object-object-requires c = search writing

pub returns-then-object : goal.returns-then-object
returns-then-object c = object_here c.element_at-h.ensures c.is_object-object.ensures c.if-object.true

pub returns : goal.returns
returns c = object_none c.element_at-h.ensures c.is_object-object.ensures c.if-object.false
