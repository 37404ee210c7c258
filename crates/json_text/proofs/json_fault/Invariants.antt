-- `json_text::json_fault` meets its contract. Assumes nothing.
use Rattle.json_text.specs.laws.Pass.{Ongoing, ongoing_start, turn_to, turn_array, turn_object, stop_array, stop_object, turn_close, turn_bad, over}
use Rattle.json_text.specs.Bytes.{most_open}
use Rattle.json_text.specs.Check.{verdict}
use lib.ListN.{length}
use Prim.Native.Nat.{◌-◌}
use borrow.Author.Rules.{rules}
use Rattle.json_text.proofs.json_fault.Given as goal

abbrev pub invariant-loop-i : goal.invariant-loop-i
invariant-loop-i l = Ongoing (verdict most_open l.s) l.s l.st l.n l.i

abbrev pub decreases-loop-i : goal.decreases-loop-i
decreases-loop-i l = length l.s - l.i
