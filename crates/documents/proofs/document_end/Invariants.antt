use Rattle.std.proofs.Common.{length, ◌-◌}
use Rattle.documents.proofs.laws.Log.{Ending}
use Rattle.documents.proofs.document_end.Given as goal

abbrev pub invariant-loop-i : goal.invariant-loop-i
invariant-loop-i l = Ending l.log l.i

abbrev pub decreases-loop-i : goal.decreases-loop-i
decreases-loop-i l = length l.log - l.i
