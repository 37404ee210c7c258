use Rattle.std.proofs.Common.{refl, rules}
use Rattle.source.specs.laws.Facts.{stepping, folded_byte, folded_end, folded_past}
use Rattle.source.proofs.folds.FoldedEncoding.step.Goals as goal

pub skip_folds-n-requires : goal.skip_folds-n-requires
skip_folds-n-requires c = search stepping

pub overflow_add-result : goal.overflow_add-result
overflow_add-result c = search stepping

pub returns-then-n-s : goal.returns-then-n-s
returns-then-n-s c = folded_byte _ _ _ _ c.skip_folds-n.ensures c.if-n-s.true refl (search rules)

pub returns-else-n-s : goal.returns-else-n-s
returns-else-n-s c = folded_end _ _ _ c.skip_folds-n.ensures c.if-n-s.false (search rules)

pub returns-else-at-s : goal.returns-else-at-s
returns-else-at-s c = folded_past _ _ c.if-at-s.false (search rules)
