-- `write_text::components::put_components`, which calls itself, meets its contract. The measure is the levels that are left.
use mathlib.Core.Path.{◌∙◌}
use Prim.Native.Nat.{ℕ, ◌-◌, ◌<◌}
use native.Mathlib.Omega.{arith}
use lib.ListN.{length}
use Rattle.write_text.specs.laws.Walks.{Walking, inner, inner_put, inners}
use Rattle.write_text.proofs.components.+put_components.Goals as goal

pub returns-then-left-lt1 : goal.returns-then-left-lt1
returns-then-left-lt1 t c = search inners

pub loop-out-init : goal.loop-out-init
loop-out-init t c = search inners

pub next_node-n-requires : goal.next_node-n-requires
next_node-n-requires t c = search inners

pub shape_of-out-in-Absent : goal.shape_of-out-in-Absent
shape_of-out-in-Absent t c = search inners

pub shape_of-line-in-Absent : goal.shape_of-line-in-Absent
shape_of-line-in-Absent t c = search inners

pub returns-in-Absent : goal.returns-in-Absent
returns-in-Absent t c = search inners

pub put_head-a-requires : goal.put_head-a-requires
put_head-a-requires t c = search inners

pub components_inside-inner-requires : goal.components_inside-inner-requires
components_inside-inner-requires t c = search inners

pub put_components-b-requires : goal.put_components-b-requires
put_components-b-requires t c = (omega (arith, c.if-left-lt1.false, c.decreases), (c.requires.0, omega (arith, c.requires.1, c.loop-out.invariant.room, c.put_head-a.auto.line)))

pub put_tail-p-requires : goal.put_tail-p-requires
put_tail-p-requires t c = (c.requires.0, omega (arith, c.requires.1, c.loop-out.invariant.room, c.put_head-a.auto.line, c.put_components-b.auto.line), c.next_node-n.ensures.name_within)

pub loop-out-smaller-in-Element : goal.loop-out-smaller-in-Element
loop-out-smaller-in-Element t c = search inners

pub loop-out-preserved-in-Element : goal.loop-out-preserved-in-Element
loop-out-preserved-in-Element t c = inner_put _ c.loop-out.invariant c.next_node-n.ensures c.if-left-lt1.false c.in-Element.is c.components_inside-inner.ensures c.put_head-a.ensures c.put_components-b.ensures c.put_tail-p.ensures (c.put_tail-p.auto.line ∙ c.put_components-b.auto.line ∙ c.put_head-a.auto.line)

pub loop-out-smaller-in-Literal : goal.loop-out-smaller-in-Literal
loop-out-smaller-in-Literal t c = search inners

pub loop-out-preserved-in-Literal : goal.loop-out-preserved-in-Literal
loop-out-preserved-in-Literal t c = search inners

pub loop-out-smaller : goal.loop-out-smaller
loop-out-smaller t c = search inners

pub loop-out-preserved : goal.loop-out-preserved
loop-out-preserved t c = search inners
