-- `write_text_jcal_values::skip` meets its contract. Assumes nothing.
use Prim.Native.Nat.{◌-◌}
use Rattle.write_text_jcal_values.specs.laws.Elements.{Skipping, skipping}
use Rattle.sink.specs.laws.Sink.{writing}
use Rattle.write_text_jcal_values.proofs.elements.skip.Goals as goal

pub loop-i-init : goal.loop-i-init
loop-i-init c = search skipping

pub element_at-h-requires : goal.element_at-h-requires
element_at-h-requires c = search skipping

pub element_next-at-requires : goal.element_next-at-requires
element_next-at-requires c = c.element_at-h.ensures.inside

pub overflow_add-i : goal.overflow_add-i
overflow_add-i c = search skipping

pub loop-i-smaller : goal.loop-i-smaller
loop-i-smaller c = search skipping

pub loop-i-preserved : goal.loop-i-preserved
loop-i-preserved c = search skipping

pub returns : goal.returns
returns c = search skipping
