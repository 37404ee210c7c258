-- `source::settled` meets its contract.
use Rattle.source.specs.laws.Facts.{settling}
use Rattle.source.proofs.folds.FoldedEncoding.settled.Goals as goal

pub skip_folds-requires : goal.skip_folds-requires
skip_folds-requires c = search settling

pub returns-then-at-s : goal.returns-then-at-s
returns-then-at-s c = search settling

pub returns : goal.returns
returns c = search settling
