-- `read_xml::component::end_of` meets its contract.
use Rattle.std.proofs.Math.Logic.{inl, inr}
use Rattle.read_xml.specs.laws.Components.{ending}
use Rattle.read_xml.proofs.component.end_of.Goals as goal
use Rattle.read_xml.proofs.component.end_of.Goals.{else-had-via-then-had+else-came, else-had-via-else-had}

pub returns-then-came : goal.returns-then-came
returns-then-came c = elim c.if-came.either [ inl h ↦ search ending | inr h ↦ search ending ]

pub returns-else-had : goal.returns-else-had
returns-else-had c = elim c.else-had.branch [ else-had-via-then-had+else-came w ↦ search ending | else-had-via-else-had w ↦ search ending ]
