-- `distinct::are_all_apart` meets its contract.
use Rattle.distinct.specs.laws.Pairs.{AllApart, pairwise}
use Rattle.distinct.specs.Listed.{word_at}
use Prim.Native.Nat.{◌-◌}
use borrow.Author.Rules.{rules}
use Rattle.distinct.proofs.pairs.are_all_apart.Given as goal

abbrev pub invariant-loop-j : goal.invariant-loop-j
invariant-loop-j g l = AllApart (word_at g.E.Encoding.encoding l.s l.from l.to) l.j

abbrev pub decreases-loop-j : goal.decreases-loop-j
decreases-loop-j g l = l.n - l.j
