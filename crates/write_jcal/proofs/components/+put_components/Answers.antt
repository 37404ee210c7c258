-- `write_jcal::components::put_components`, which calls itself, meets its contract. The measure is the levels that are left.
use mathlib.Core.Bool.{false}
use Prim.Native.Nat.{ℕ, ◌-◌, ◌<◌}
use native.Mathlib.Omega.{arith}
use lib.ListN.{length}
use Rattle.text_entries.specs.laws.Levels.{level_left}
use Rattle.write_jcal.specs.laws.Places.{ahead_ready}
use Rattle.write_jcal.proofs.Walking.{Walking, inner, inners, inner_at_bare, inner_at_component}
use Rattle.write_jcal.proofs.components.+put_components.Goals as goal

pub loop-at-init : goal.loop-at-init
loop-at-init g t c = search inners

pub bound_at-f-requires : goal.bound_at-f-requires
bound_at-f-requires g t c = search inners

pub put_head-h-requires : goal.put_head-h-requires
put_head-h-requires g t c = search inners

pub put_tail-p-requires : goal.put_tail-p-requires
put_tail-p-requires g t c = search inners

pub loop-at-smaller-then-a : goal.loop-at-smaller-then-a
loop-at-smaller-then-a g t c = search inners

pub loop-at-preserved-then-a : goal.loop-at-preserved-then-a
loop-at-preserved-then-a g t c = inner_at_bare c.loop-at.invariant c.bound_at-f.ensures c.requires.1 c.in-Begin.is c.put_head-h.ensures c.if-a.true c.put_tail-p.ensures

pub overflow_sub-left : goal.overflow_sub-left
overflow_sub-left g t c = omega (arith, c.requires.1)

pub put_components-b-requires : goal.put_components-b-requires
put_components-b-requires g t c = λ κs h. (omega (arith, c.decreases, c.requires.1), (h, (search (ahead_ready, inners), level_left c.put_head-h.ensures.ahead c.if-a.false)))

pub put_tail-p-requires-else-a : goal.put_tail-p-requires-else-a
put_tail-p-requires-else-a g t c = search inners

pub loop-at-smaller-else-a : goal.loop-at-smaller-else-a
loop-at-smaller-else-a g t c = search inners

pub loop-at-preserved-else-a : goal.loop-at-preserved-else-a
loop-at-preserved-else-a g t c = inner_at_component c.loop-at.invariant c.bound_at-f.ensures c.requires.1 c.in-Begin.is c.put_head-h.ensures c.put_components-b.ensures c.put_tail-p-else-a.ensures

pub shape_of-out-in-End : goal.shape_of-out-in-End
shape_of-out-in-End g t c = search inners

pub returns-in-End : goal.returns-in-End
returns-in-End g t c = search inners

pub loop-at-smaller-in-Property : goal.loop-at-smaller-in-Property
loop-at-smaller-in-Property g t c = search inners

pub loop-at-preserved-in-Property : goal.loop-at-preserved-in-Property
loop-at-preserved-in-Property g t c = search inners

pub loop-at-smaller : goal.loop-at-smaller
loop-at-smaller g t c = search inners

pub loop-at-preserved : goal.loop-at-preserved
loop-at-preserved g t c = search inners

pub shape_of-out : goal.shape_of-out
shape_of-out g t c = search inners

pub returns : goal.returns
returns g t c = search inners
