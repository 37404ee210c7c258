-- `folding::skip::skip_folds` meets its contract.
use Prim.Native.Nat.{◌-◌, ◌+◌, ◌≤◌}
use mathlib.Core.Path.{◌≡◌, sym, ◌∙◌}
use native.Mathlib.Omega.{arith}
use borrow.Author.Rules.{rules}
use lib.ListN.{length}
use Rattle.folding.specs.Cut.{Passed}
use Rattle.folding.specs.laws.Cut.{passed_here, passed_more, behind_byte, behind_end, fold_fits}
use Rattle.folding.proofs.skip.skip_folds.Goals as goal

pub loop-n-init : goal.loop-n-init
loop-n-init c = search (passed_here, rules)

pub overflow_add-n : goal.overflow_add-n
overflow_add-n c = let h = fold_fits c.args.s.now c.loop-n.n c.fold_at.ensures c.if-fold_at.true in search rules

pub loop-n-smaller : goal.loop-n-smaller
loop-n-smaller c = let h = fold_fits c.args.s.now c.loop-n.n c.fold_at.ensures c.if-fold_at.true in omega arith

pub loop-n-preserved : goal.loop-n-preserved
loop-n-preserved c = passed_more _ _ _ c.loop-n.invariant c.fold_at.ensures c.if-fold_at.true

pub returns-else-fold_at : goal.returns-else-fold_at
returns-else-fold_at c = behind_byte _ _ _ c.loop-n.invariant c.fold_at.ensures c.if-fold_at.false

pub returns : goal.returns
returns c = search (behind_end, rules)
