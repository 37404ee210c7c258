-- `source::mark_before` meets its contract. Assumes nothing.
use Rattle.source.specs.laws.Mark.{mark_here, mark_one, mark_two}
use borrow.Author.Rules.{rules}
use Rattle.source.proofs.points.mark_before.Goals as goal

pub returns-then-byte_at-b : goal.returns-then-byte_at-b
returns-then-byte_at-b c = mark_here _ _ _ _ c.byte_at.ensures c.if-byte_at-b.true

pub returns-then-byte_at-b-2 : goal.returns-then-byte_at-b-2
returns-then-byte_at-b-2 c = mark_one _ _ _ _ c.byte_at.ensures c.if-byte_at-b.false _ _ c.back-p.ensures c.byte_at-2.ensures c.if-byte_at-b-2.true

pub returns : goal.returns
returns c = mark_two _ _ _ _ c.byte_at.ensures c.if-byte_at-b.false _ _ c.back-p.ensures c.byte_at-2.ensures c.if-byte_at-b-2.false _ c.back.ensures
