-- `write_text_jcal::put_properties` meets its contract. Assumes nothing.
use Rattle.write_text_jcal.specs.laws.Walks.{Walking, own_text, own_room, own_fits, own_start, own_within, own_put, own_end}
use Rattle.write_text_jcal_values.specs.laws.Elements.{there_less}
use lib.ListN.{length}
use Prim.Native.Nat.{◌-◌}
use Rattle.sink.specs.laws.Sink.{writing}
use Rattle.write_text_jcal.proofs.properties.put_properties.Goals as goal

pub loop-inside-init : goal.loop-inside-init
loop-inside-init c = own_start c.args.edition c.args.k c.args.s.now c.args.from _ _ _ c.requires.2 (search writing)

pub element_at-h-requires : goal.element_at-h-requires
element_at-h-requires c = search writing

pub is_there-there-requires : goal.is_there-there-requires
is_there-there-requires c = search writing

pub array_at-inside-requires : goal.array_at-inside-requires
array_at-inside-requires c = search writing

pub put_property_line-p-requires : goal.put_property_line-p-requires
put_property_line-p-requires c = (c.requires.0, c.requires.1, own_within c.args.edition c.args.k c.loop-inside.invariant c.element_at-h.ensures c.is_there-there.ensures _ c.array_at-inside.ensures c.if-there.true)

pub element_next-at-requires : goal.element_next-at-requires
element_next-at-requires c = c.element_at-h.ensures.inside

pub loop-inside-smaller : goal.loop-inside-smaller
loop-inside-smaller c = there_less c.element_at-h.ensures c.is_there-there.ensures c.element_next-at.ensures c.if-there.true

pub loop-inside-preserved : goal.loop-inside-preserved
loop-inside-preserved c = own_put c.args.edition c.args.k c.loop-inside.invariant c.element_at-h.ensures c.is_there-there.ensures _ c.array_at-inside.ensures c.if-there.true c.element_next-at.ensures c.put_property_line-p.ensures c.put_property_line-p.auto.line

pub shape_of-out-else-there : goal.shape_of-out-else-there
shape_of-out-else-there c = c.loop-inside.invariant.kept

pub shape_of-line-else-there : goal.shape_of-line-else-there
shape_of-line-else-there c = c.loop-inside.invariant.room

pub returns-else-there : goal.returns-else-there
returns-else-there c = own_end c.args.edition c.args.k c.loop-inside.invariant c.element_at-h.ensures c.is_there-there.ensures c.if-there.false
