-- `read_text::line::may_follow` meets its contract.
use Rattle.read_text.specs.laws.Holding.{follow_inner, follow_first}
use Rattle.read_text.proofs.line.may_follow.Goals as goal

pub returns-then-inner : goal.returns-then-inner
returns-then-inner c = follow_inner _ _ c.if-inner.true

pub returns : goal.returns
returns c = follow_first _ _ c.if-inner.false
