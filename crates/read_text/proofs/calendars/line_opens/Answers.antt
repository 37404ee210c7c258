-- `read_text::calendars::line_opens` meets its contract.
use mathlib.Core.Path.{subst}
use Rattle.read_text_line.specs.Line.{LineAt}
use Rattle.read_text.specs.laws.Outer.{outer_bad, outer_line}
use Rattle.read_text.specs.laws.Kinds.{name_within}
use Rattle.read_text.proofs.calendars.line_opens.Goals as goal

pub returns-in_default : goal.returns-in_default
returns-in_default g c = rw c.at.ensures (outer_bad _ _ _ _ (subst (LineAt _ _ _) c.in_default.is c.line_at.ensures))

pub content_opens-requires : goal.content_opens-requires
content_opens-requires g c = let a = (subst (LineAt _ _ _) c.in-Some.is c.line_at.ensures) in (name_within a c.requires, a.parts.1)

pub returns : goal.returns
returns g c = outer_line _ _ _ _ _ c.content_opens.result g.met.E.Cuttable.cut (subst (LineAt _ _ _) c.in-Some.is c.line_at.ensures) c.content_opens.ensures
