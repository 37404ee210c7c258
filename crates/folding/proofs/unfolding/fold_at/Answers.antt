-- `folding::fold_at` meets its contract.
use borrow.Author.Rules.{rules}
use Rattle.folding.proofs.Kept.{folds}
use Rattle.folding.proofs.unfolding.fold_at.Goals as goal

pub returns-then-s-at-eq10 : goal.returns-then-s-at-eq10
returns-then-s-at-eq10 c = search folds

pub returns-else-s-at-eq10 : goal.returns-else-s-at-eq10
returns-else-s-at-eq10 c = search folds

pub returns-else-s-at-ge3 : goal.returns-else-s-at-ge3
returns-else-s-at-ge3 c = search folds

pub returns-else-s-at-eq13 : goal.returns-else-s-at-eq13
returns-else-s-at-eq13 c = search folds
