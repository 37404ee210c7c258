-- `xml::references::reference_at` meets its contract.
use native.Mathlib.Omega.{arith}
use borrow.Author.Rules.{rules}
use Rattle.octets.specs.laws.Pick.{flag_yes, flag_no}
use Rattle.octets.specs.Ascii.{ascii}
use Rattle.xml.specs.laws.References.{hex_reference, decimal_reference, entity_reference}
use Rattle.xml.specs.laws.Starting.{starts_inside}
use Rattle.xml.proofs.references.reference_at.Goals as goal

pub number_at-requires : goal.number_at-requires
number_at-requires c = (omega arith, starts_inside (ascii "#x") _ _ c.requires (flag_yes _ _ c.starts_at.ensures c.if-starts_at.true))

pub returns-then-starts_at : goal.returns-then-starts_at
returns-then-starts_at c = hex_reference _ _ (flag_yes _ _ c.starts_at.ensures c.if-starts_at.true) c.number_at.ensures

pub number_at-requires-then-starts_at-2 : goal.number_at-requires-then-starts_at-2
number_at-requires-then-starts_at-2 c = (omega arith, starts_inside (ascii "#") _ _ c.requires (flag_yes _ _ c.starts_at-2.ensures c.if-starts_at-2.true))

pub returns-then-starts_at-2 : goal.returns-then-starts_at-2
returns-then-starts_at-2 c = decimal_reference _ _ (flag_no _ _ c.starts_at.ensures c.if-starts_at.false) (flag_yes _ _ c.starts_at-2.ensures c.if-starts_at-2.true) c.number_at-then-starts_at-2.ensures

pub returns : goal.returns
returns c = entity_reference _ _ (flag_no _ _ c.starts_at.ensures c.if-starts_at.false) (flag_no _ _ c.starts_at-2.ensures c.if-starts_at-2.false) c.entity_at.ensures
