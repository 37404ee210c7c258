-- `xml::characters::char_at` meets its contract.
use borrow.Author.Rules.{rules}
use Rattle.xml.specs.laws.References.{at_tag, at_reference, at_literal, past_end}
use Rattle.xml.proofs.characters.char_at.Goals as goal

pub returns-then-u-eq-LESS : goal.returns-then-u-eq-LESS
returns-then-u-eq-LESS c = at_tag _ _ _ c.if-p-s.true c.wide-u.ensures.0 c.if-u-eq-LESS.true

pub returns-then-u-eq-AMPERSAND : goal.returns-then-u-eq-AMPERSAND
returns-then-u-eq-AMPERSAND c = at_reference _ _ _ c.if-p-s.true c.wide-u.ensures.0 c.if-u-eq-LESS.false c.if-u-eq-AMPERSAND.true c.reference_at.ensures

pub returns-then-p-s : goal.returns-then-p-s
returns-then-p-s c = at_literal _ _ _ c.if-p-s.true c.wide-u.ensures.0 c.if-u-eq-LESS.false c.if-u-eq-AMPERSAND.false c.literal_at.ensures

pub returns : goal.returns
returns c = past_end _ _ c.if-p-s.false
