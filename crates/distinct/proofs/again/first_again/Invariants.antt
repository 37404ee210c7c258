-- `distinct::first_again` meets its contract.
use Prim.Native.Nat.{◌-◌}
use native.Mathlib.Omega.{arith}
use borrow.Author.Rules.{rules}
use Rattle.distinct.specs.Listed.{word_at}
use Rattle.distinct.specs.laws.Again.{Between, half_start, half_all, half_lower, half_upper, half_end}
use Rattle.distinct.proofs.again.first_again.Given as goal

abbrev pub invariant-loop-low : goal.invariant-loop-low
invariant-loop-low g l = Between (word_at g.E.Encoding.encoding l.s l.from l.to) l.n l.low l.high

abbrev pub decreases-loop-low : goal.decreases-loop-low
decreases-loop-low g l = l.high - l.low
