-- `source::xml_unit` meets its contract.
use native.Mathlib.Omega.{arith}
use Rattle.source.specs.laws.Characters.{xml_apart, xml_placed, xml_named, xml_found}
use borrow.Author.Rules.{rules}
use Rattle.source.proofs.characters.xml_unit.Goals as goal

pub unit_at-requires : goal.unit_at-requires
unit_at-requires c = (xml_placed _ _ c.char_at-c.ensures, omega arith)

pub returns-then-at-eq0 : goal.returns-then-at-eq0
returns-then-at-eq0 c = c.unit_at.ensures 1 xml_apart (xml_named _ _ c.char_at-c.ensures)

pub unit_within-requires : goal.unit_within-requires
unit_within-requires c = (xml_placed _ _ c.char_at-c-2.ensures, omega arith, c.mark_before-p.ensures.1, c.mark_before-p.ensures.2)

pub returns : goal.returns
returns c = c.unit_within.ensures 1 xml_apart (xml_found _ _ c.char_at-c-2.ensures _ c.mark_before-p.ensures.0)
