-- `read_xml::component::end_components` meets its contract.
use Rattle.std.proofs.Math.Logic.{inl, inr}
use Rattle.read_xml.specs.laws.Components.{ending}
use Rattle.read_xml.proofs.component.end_components.Goals as goal

pub returns-then-k-eq-VTIMEZONE : goal.returns-then-k-eq-VTIMEZONE
returns-then-k-eq-VTIMEZONE c = elim c.if-k-eq-VTIMEZONE.either [ inl h ↦ search ending | inr h ↦ elim h [ inl i ↦ search ending | inr i ↦ search ending ] ]

pub returns-else-k-eq-VTIMEZONE : goal.returns-else-k-eq-VTIMEZONE
returns-else-k-eq-VTIMEZONE c = search ending
