-- `text_entries::bound::line_aside` meets its contract.
use mathlib.Core.Path.{subst}
use Rattle.read_text_line.specs.LineEnd.{EndsLine}
use Rattle.text_entries.specs.laws.Bounds.{loose_aside, whole_aside}
use Rattle.text_entries.proofs.bound.line_aside.Goals as goal

pub returns-in_default : goal.returns-in_default
returns-in_default g c = loose_aside c.requires.0 c.requires.1 (subst (EndsLine _ _ _) c.in_default.is c.line_end.ensures)

pub returns : goal.returns
returns g c = whole_aside c.requires.0 (subst (EndsLine _ _ _) c.in-Some.is c.line_end.ensures) c.requires.2
