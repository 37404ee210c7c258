-- `distinct::is_again` meets its contract.
use Rattle.distinct.specs.Pairs.{Apart}
use Rattle.distinct.specs.laws.Pairs.{pairwise}
use Rattle.distinct.specs.Listed.{word_at}
use Prim.Native.Nat.{◌-◌}
use borrow.Author.Rules.{rules}
use Rattle.distinct.proofs.pairs.is_again.Given as goal

abbrev pub invariant-loop-i : goal.invariant-loop-i
invariant-loop-i g l = Apart (word_at g.E.Encoding.encoding l.s l.from l.to) l.j l.i

abbrev pub decreases-loop-i : goal.decreases-loop-i
decreases-loop-i g l = l.j - l.i
