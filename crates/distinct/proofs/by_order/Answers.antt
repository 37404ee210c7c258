-- `distinct::by_order` meets its contract.
use Rattle.distinct.specs.laws.Rising.{rising_fewer, rising_distinct}
use mathlib.Core.Path.{sym}
use borrow.Author.Rules.{rules}
use Rattle.distinct.proofs.by_order.Goals as goal

pub returns-then-are_alike : goal.returns-then-are_alike
returns-then-are_alike g c = sym (c.are_alike.ensures c.if-are_alike.true)

pub returns-then-is_order : goal.returns-then-is_order
returns-then-is_order g c = sym (rising_distinct (rising_fewer c.rise-r.ensures c.if-r-n.false) (c.is_order.ensures c.if-is_order.true))
