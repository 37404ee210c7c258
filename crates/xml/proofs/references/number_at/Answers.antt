-- `xml::references::number_at` meets its contract.
use borrow.Author.Rules.{rules}
use Rattle.octets.specs.laws.Pick.{flag_yes, flag_no}
use Rattle.xml.specs.laws.References.{number_good, number_empty, number_short, number_other, number_none}
use Rattle.xml.proofs.references.number_at.Goals as goal

pub returns-then-is_character : goal.returns-then-is_character
returns-then-is_character c = number_good _ _ _ _ _ c.digits_at-d.ensures c.requires.0 c.if-at-k.true c.if-e-s.true c.if-s-e-eq59.true (flag_yes _ _ c.is_character.ensures c.if-is_character.true)

pub returns-else-is_character : goal.returns-else-is_character
returns-else-is_character c = number_none _ _ _ _ _ c.digits_at-d.ensures (flag_no _ _ c.is_character.ensures c.if-is_character.false)

pub returns-else-s-e-eq59 : goal.returns-else-s-e-eq59
returns-else-s-e-eq59 c = number_other _ _ _ _ _ c.digits_at-d.ensures c.if-e-s.true c.if-s-e-eq59.false

pub returns-else-e-s : goal.returns-else-e-s
returns-else-e-s c = number_short _ _ _ _ _ c.digits_at-d.ensures c.if-e-s.false

pub returns-else-at-k : goal.returns-else-at-k
returns-else-at-k c = number_empty _ _ _ _ _ c.digits_at-d.ensures c.if-at-k.false
