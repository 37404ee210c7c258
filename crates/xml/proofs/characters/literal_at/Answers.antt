-- `xml::characters::literal_at` meets its contract.
use borrow.Author.Rules.{rules}
use Rattle.octets.specs.laws.Pick.{flag_yes, flag_no}
use Rattle.xml.specs.laws.References.{cr_lf, cr_alone, bracket_end, bracket_alone, as_it_is}
use Rattle.xml.proofs.characters.literal_at.Goals as goal

pub returns-then-starts_at : goal.returns-then-starts_at
returns-then-starts_at c = cr_lf _ _ _ c.if-u-eq-CR.true c.requires.0 (flag_yes _ _ c.starts_at.ensures c.if-starts_at.true)

pub returns-then-u-eq-CR : goal.returns-then-u-eq-CR
returns-then-u-eq-CR c = cr_alone _ _ _ c.if-u-eq-CR.true c.requires.0 (flag_no _ _ c.starts_at.ensures c.if-starts_at.false)

pub returns-then-starts_at-2 : goal.returns-then-starts_at-2
returns-then-starts_at-2 c = bracket_end _ _ _ c.if-u-eq-CR.false c.if-u-eq-RIGHT_BRACKET.true (flag_yes _ _ c.starts_at-then-u-eq-RIGHT_BRACKET.ensures c.if-starts_at-2.true)

pub returns-then-u-eq-RIGHT_BRACKET : goal.returns-then-u-eq-RIGHT_BRACKET
returns-then-u-eq-RIGHT_BRACKET c = bracket_alone _ _ _ c.if-u-eq-CR.false c.if-u-eq-RIGHT_BRACKET.true c.requires.0 (flag_no _ _ c.starts_at-then-u-eq-RIGHT_BRACKET.ensures c.if-starts_at-2.false)

pub returns : goal.returns
returns c = as_it_is _ _ _ c.if-u-eq-CR.false c.if-u-eq-RIGHT_BRACKET.false c.requires.1 c.requires.0
