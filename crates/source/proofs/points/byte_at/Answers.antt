-- `source::byte_at` meets its contract. Assumes nothing.
use Rattle.source.specs.laws.Mark.{byte_none}
use borrow.Author.Rules.{rules}
use Rattle.source.proofs.points.byte_at.Goals as goal

pub returns-then-p-s : goal.returns-then-p-s
returns-then-p-s c = c.wide.ensures.0

pub returns : goal.returns
returns c = search (byte_none, rules)
