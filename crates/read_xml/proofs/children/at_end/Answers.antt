-- `read_xml::children::at_end` meets its contract.
use Rattle.std.proofs.Math.Logic.{inl, inr}
use Rattle.read_xml.specs.laws.Turning.{ending}
use Rattle.read_xml.proofs.children.at_end.Goals as goal
use Rattle.read_xml.proofs.children.at_end.Goals.{else-first-via-then-first+else-second, else-first-via-else-first}

pub returns-then-second : goal.returns-then-second
returns-then-second c = elim c.if-second.either [ inl h ↦ search ending | inr h ↦ search ending ]

pub returns-else-first : goal.returns-else-first
returns-else-first c = elim c.else-first.branch [ else-first-via-then-first+else-second w ↦ search ending | else-first-via-else-first w ↦ search ending ]
