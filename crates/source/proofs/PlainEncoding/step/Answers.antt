use Rattle.std.proofs.Common.{refl, rules}
use Rattle.source.specs.laws.Facts.{stepping, plain_byte}
use Rattle.source.proofs.PlainEncoding.step.Goals as goal

pub returns-then-at-s : goal.returns-then-at-s
returns-then-at-s c = plain_byte _ _ _ c.if-at-s.true refl (search rules)

pub returns : goal.returns
returns c = search stepping
