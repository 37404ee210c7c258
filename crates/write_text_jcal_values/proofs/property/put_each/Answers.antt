-- `write_text_jcal_values::put_each` meets its contract. Assumes nothing.
use Rattle.write_text_jcal_values.specs.laws.Joining.{Joining, joining_start, joining_more, joining_end}
use Rattle.write_text_jcal_values.specs.laws.Elements.{there_spans, there_less}
use Rattle.write_text_jcal_values.specs.Property.{one_at}
use Rattle.values.specs.WriteValue.{write_value}
use lib.ListN.{length}
use Prim.Native.Nat.{◌-◌}
use Rattle.sink.specs.laws.Sink.{writing}
use Rattle.write_text_jcal_values.proofs.property.put_each.Goals as goal

pub loop-at-init : goal.loop-at-init
loop-at-init c = search (joining_start, writing)

pub element_at-h-requires : goal.element_at-h-requires
element_at-h-requires c = search writing

pub is_there-there-requires : goal.is_there-there-requires
is_there-there-requires c = search writing

pub put_one_value-q-requires : goal.put_one_value-q-requires
put_one_value-q-requires c = (c.requires.0, there_spans c.element_at-h.ensures c.is_there-there.ensures c.if-there.true, c.requires.1)

pub element_next-at-requires : goal.element_next-at-requires
element_next-at-requires c = c.element_at-h.ensures.inside

pub loop-at-smaller : goal.loop-at-smaller
loop-at-smaller c = there_less c.element_at-h.ensures c.is_there-there.ensures c.element_next-at.ensures c.if-there.true

pub loop-at-preserved : goal.loop-at-preserved
loop-at-preserved c = joining_more _ _ _ c.loop-at.invariant c.element_at-h.ensures c.is_there-there.ensures c.if-there.true c.element_next-at.ensures c.put_one_value-q.auto.out c.put_one_value-q.ensures

pub shape_of-out-else-there : goal.shape_of-out-else-there
shape_of-out-else-there c = c.loop-at.invariant.kept

pub returns-else-there : goal.returns-else-there
returns-else-there c = joining_end _ _ _ c.loop-at.invariant c.element_at-h.ensures c.is_there-there.ensures c.if-there.false
