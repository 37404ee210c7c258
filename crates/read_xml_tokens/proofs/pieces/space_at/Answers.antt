-- `read_xml_tokens::pieces::space_at` meets its contract.
use borrow.Author.Rules.{rules}
use Rattle.read_xml_tokens.specs.laws.PieceLaws.{space_none, space_some}
use Rattle.read_xml_tokens.specs.laws.Ends.{ends_stuck}
use Rattle.read_xml_tokens.proofs.pieces.space_at.Goals as goal

pub returns-then-s-at : goal.returns-then-s-at
returns-then-s-at c = ends_stuck _ _ _ c.if-s-at.true

pub returns-then-e-at : goal.returns-then-e-at
returns-then-e-at c = space_none _ _ _ c.blank_at-e.ensures c.if-s-at.false c.if-e-at.true

pub returns : goal.returns
returns c = space_some _ _ _ c.blank_at-e.ensures c.if-s-at.false c.if-e-at.false
