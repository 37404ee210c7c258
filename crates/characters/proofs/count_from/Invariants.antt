-- `characters::count_from` meets its contract.
use Prim.Native.Nat.{◌*◌, ◌-◌}
use native.Mathlib.Omega.{arith}
use lib.ListN.{length}
use Rattle.characters.specs.laws.Counting.{Counting, counting_start, counting_on, counting_more, counting_end, counting_less}
use borrow.Author.Rules.{rules}
use Rattle.characters.proofs.count_from.Given as goal

abbrev pub invariant-loop-x : goal.invariant-loop-x
invariant-loop-x g l = Counting g.E.Encoding.encoding l.s l.from l.n l.c

abbrev pub decreases-loop-x : goal.decreases-loop-x
decreases-loop-x g l = 4 * length l.s - l.c
