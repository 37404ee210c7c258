-- `read_xml_tokens::pieces::name_at` meets its contract.
use native.Mathlib.Omega.{arith}
use borrow.Author.Rules.{rules}
use Rattle.read_xml_tokens.specs.laws.PieceLaws.{name_some, name_none, name_over}
use Rattle.read_xml_tokens.specs.laws.Ends.{ends_stuck}
use Rattle.read_xml_tokens.proofs.pieces.name_at.Goals as goal

pub returns-then-s-at : goal.returns-then-s-at
returns-then-s-at c = ends_stuck _ _ _ c.if-s-at.true

pub returns-then-is_alpha : goal.returns-then-is_alpha
returns-then-is_alpha c = name_some _ _ _ c.name_end.ensures c.if-s-at.false c.if-at-s.true (rw (← c.wide-b.ensures.0, ← c.is_alpha.ensures) c.if-is_alpha.true)

pub returns-then-at-s : goal.returns-then-at-s
returns-then-at-s c = name_none _ _ c.if-at-s.true (rw (← c.wide-b.ensures.0, ← c.is_alpha.ensures) c.if-is_alpha.false)

pub returns : goal.returns
returns c = name_over _ _ (omega arith)
