-- `write_text_jcal::put_components`, which calls itself, meets its contract. Assumes nothing.
use Rattle.write_text_jcal.specs.laws.Walks.{Walking, inner_text, inner_room, inner_fits, none_left, inner_start, inner_head, inner_inside, inner_tail, inner_put, inner_end}
use Rattle.write_text_jcal_values.specs.laws.Elements.{there_less}
use Prim.Native.Nat.{◌-◌}
use lib.ListN.{length}
use native.Mathlib.Omega.{arith}
use mathlib.Core.Path.{◌∙◌}
use Rattle.sink.specs.laws.Sink.{writing}
use Prim.Native.Nat.{ℕ, ◌<◌}
use Rattle.write_text_jcal.proofs.components.+put_components.Goals as goal

pub returns-then-left-lt1 : goal.returns-then-left-lt1
returns-then-left-lt1 t c = none_left c.args.edition c.args.left c.args.s.now c.args.from _ _ _ c.if-left-lt1.true (search writing)

pub loop-inside-init : goal.loop-inside-init
loop-inside-init t c = inner_start c.args.edition c.args.left c.args.s.now c.args.from _ _ _ c.requires.1 (search writing)

pub element_at-h-requires : goal.element_at-h-requires
element_at-h-requires t c = search writing

pub is_there-there-requires : goal.is_there-there-requires
is_there-there-requires t c = search writing

pub array_at-inside-requires : goal.array_at-inside-requires
array_at-inside-requires t c = search writing

pub put_head-a-requires : goal.put_head-a-requires
put_head-a-requires t c = (c.requires.0, inner_head c.args.edition c.args.left c.loop-inside.invariant c.element_at-h.ensures c.is_there-there.ensures _ c.array_at-inside.ensures c.if-there.true c.if-left-lt1.false)

pub components_inside-inner-requires : goal.components_inside-inner-requires
components_inside-inner-requires t c = search writing

pub put_components-b-requires : goal.put_components-b-requires
put_components-b-requires t c = (omega (arith, c.if-left-lt1.false, c.decreases), (c.requires.0, inner_inside c.args.edition c.args.left c.loop-inside.invariant c.element_at-h.ensures c.is_there-there.ensures _ c.array_at-inside.ensures c.if-there.true c.if-left-lt1.false _ c.components_inside-inner.ensures c.put_head-a.auto.line))

pub put_tail-p-requires : goal.put_tail-p-requires
put_tail-p-requires t c = (c.requires.0, inner_tail c.args.edition c.args.left c.loop-inside.invariant c.element_at-h.ensures c.is_there-there.ensures _ c.array_at-inside.ensures c.if-there.true c.if-left-lt1.false (c.put_components-b.auto.line ∙ c.put_head-a.auto.line))

pub element_next-at-requires : goal.element_next-at-requires
element_next-at-requires t c = c.element_at-h.ensures.inside

pub loop-inside-smaller : goal.loop-inside-smaller
loop-inside-smaller t c = there_less c.element_at-h.ensures c.is_there-there.ensures c.element_next-at.ensures c.if-there.true

pub loop-inside-preserved : goal.loop-inside-preserved
loop-inside-preserved t c = inner_put c.args.edition c.args.left c.loop-inside.invariant c.element_at-h.ensures c.is_there-there.ensures _ c.array_at-inside.ensures c.if-there.true c.if-left-lt1.false _ c.components_inside-inner.ensures c.element_next-at.ensures c.put_head-a.ensures c.put_components-b.ensures c.put_tail-p.ensures (c.put_tail-p.auto.line ∙ c.put_components-b.auto.line ∙ c.put_head-a.auto.line)

pub shape_of-out-else-there : goal.shape_of-out-else-there
shape_of-out-else-there t c = c.loop-inside.invariant.kept

pub shape_of-line-else-there : goal.shape_of-line-else-there
shape_of-line-else-there t c = c.loop-inside.invariant.room

pub returns-else-there : goal.returns-else-there
returns-else-there t c = inner_end c.args.edition c.args.left c.loop-inside.invariant c.element_at-h.ensures c.is_there-there.ensures c.if-there.false
