-- `folding::put_folded` meets its contract.
use mathlib.Core.Path.{◌≡◌}
use Prim.Native.Nat.{◌-◌, ◌≤◌}
use native.Mathlib.Omega.{arith}
use lib.ListN.{length, drop}
use lib.Seq.{length-take-le}
use borrow.Author.Rules.{rules}
use Rattle.sink.specs.Sink.{Todo}
use Rattle.sink.specs.laws.Sink.{writing}
use Rattle.folding.specs.Rows.{spaced}
use Rattle.folding.specs.laws.Rows.{takes_some}
use Rattle.folding.proofs.Rowed.{todo_begun, todo_next, todo_rows}
use Rattle.folding.proofs.folded.put_folded.Given as goal

abbrev pub invariant-loop-i : goal.invariant-loop-i
invariant-loop-i l = (l.i ≤ length l.s) × Todo l.initial.out l.initial.o (spaced (drop l.initial.i l.s)) l.out l.o (spaced (drop l.i l.s)) × (length l.out ≡ length l.initial.out)

abbrev pub decreases-loop-i : goal.decreases-loop-i
decreases-loop-i l = length l.s - l.i
