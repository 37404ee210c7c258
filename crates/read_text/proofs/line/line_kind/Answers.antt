-- `read_text::line::line_kind` meets its contract.
use mathlib.Core.Path.{subst}
use Rattle.read_text_line.specs.Line.{LineAt}
use Rattle.read_text.specs.laws.Kinds.{name_within, kind_bad, kind_line}
use Rattle.read_text.proofs.line.line_kind.Goals as goal

pub returns-in_default : goal.returns-in_default
returns-in_default g c = rw c.at.ensures (kind_bad _ _ _ c.args.inner _ _ _ (subst (LineAt _ _ _) c.in_default.is c.line_at.ensures))

pub content_line-requires : goal.content_line-requires
content_line-requires g c = let a = (subst (LineAt _ _ _) c.in-Some.is c.line_at.ensures) in (c.requires.0, name_within a c.requires.1, a.parts.1)

pub returns : goal.returns
returns g c = kind_line _ _ _ c.args.inner _ _ _ _ c.content_line.result g.met.E.Cuttable.cut (subst (LineAt _ _ _) c.in-Some.is c.line_at.ensures) c.content_line.ensures
