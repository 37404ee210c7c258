-- `distinct::first_again` meets its contract.
use Prim.Native.Nat.{◌-◌}
use native.Mathlib.Omega.{arith}
use borrow.Author.Rules.{rules}
use Rattle.distinct.specs.Listed.{word_at}
use Rattle.distinct.specs.laws.Again.{Between, half_start, half_all, half_lower, half_upper, half_end}
use Rattle.distinct.proofs.again.first_again.Goals as goal

pub returns-then-are_distinct : goal.returns-then-are_distinct
returns-then-are_distinct g c = half_all _ c.are_distinct.ensures c.if-are_distinct.true

pub loop-low-init : goal.loop-low-init
loop-low-init g c = half_start _ c.are_distinct.ensures c.if-are_distinct.false

pub overflow_add-low : goal.overflow_add-low
overflow_add-low g c = omega (arith, c.loop-low.invariant.least, c.loop-low.invariant.most)

pub overflow_sub-middle : goal.overflow_sub-middle
overflow_sub-middle g c = omega (arith, c.loop-low.invariant.least)

pub overflow_add-middle : goal.overflow_add-middle
overflow_add-middle g c = omega (arith, c.loop-low.invariant.least, c.loop-low.invariant.most)

pub loop-low-smaller-then-are_distinct-2 : goal.loop-low-smaller-then-are_distinct-2
loop-low-smaller-then-are_distinct-2 g c = omega (arith, c.loop-low.invariant.least)

pub loop-low-preserved-then-are_distinct-2 : goal.loop-low-preserved-then-are_distinct-2
loop-low-preserved-then-are_distinct-2 g c = half_lower c.loop-low.invariant _ (omega (arith, c.loop-low.invariant.least)) (omega (arith, c.loop-low.invariant.least)) c.are_distinct-in-loop-low.ensures c.if-are_distinct-2.true

pub loop-low-smaller : goal.loop-low-smaller
loop-low-smaller g c = omega (arith, c.loop-low.invariant.least)

pub loop-low-preserved : goal.loop-low-preserved
loop-low-preserved g c = half_upper c.loop-low.invariant _ (omega (arith, c.loop-low.invariant.least)) (omega (arith, c.loop-low.invariant.least)) c.are_distinct-in-loop-low.ensures c.if-are_distinct-2.false

pub returns : goal.returns
returns g c = half_end c.loop-low.invariant (omega arith)
