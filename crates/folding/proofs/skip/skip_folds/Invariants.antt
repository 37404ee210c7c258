-- `folding::skip::skip_folds` meets its contract.
use Prim.Native.Nat.{◌-◌, ◌+◌, ◌≤◌}
use mathlib.Core.Path.{◌≡◌, sym, ◌∙◌}
use native.Mathlib.Omega.{arith}
use borrow.Author.Rules.{rules}
use lib.ListN.{length}
use Rattle.folding.specs.Cut.{Passed}
use Rattle.folding.specs.laws.Cut.{passed_here, passed_more, behind_byte, behind_end, fold_fits}
use Rattle.folding.proofs.skip.skip_folds.Given as goal

abbrev pub invariant-loop-n : goal.invariant-loop-n
invariant-loop-n l = Passed l.s l.at l.n

abbrev pub decreases-loop-n : goal.decreases-loop-n
decreases-loop-n l = length l.s - l.n
