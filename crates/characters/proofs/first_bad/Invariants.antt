-- `characters::first_bad` meets its contract.
use Prim.Native.Nat.{◌*◌, ◌-◌}
use native.Mathlib.Omega.{arith}
use lib.ListN.{length}
use Rattle.characters.specs.laws.Judging.{Judging, judging_start, judging_on, judging_more, judging_end}
use borrow.Author.Rules.{rules}
use Rattle.characters.proofs.first_bad.Given as goal

abbrev pub invariant-loop-c : goal.invariant-loop-c
invariant-loop-c g l = Judging g.E.Encoding.encoding l.s l.st l.i l.c

abbrev pub decreases-loop-c : goal.decreases-loop-c
decreases-loop-c g l = 4 * length l.s - l.c
