-- `read_text::component::next_line` meets its contract.
use mathlib.Core.Path.{subst}
use Rattle.read_text_line.specs.LineEnd.{EndsLine}
use Rattle.read_text_line.specs.laws.Ready.{line_count, line_inside}
use Rattle.read_text.specs.laws.Turns.{turned_loose, turned_whole}
use Rattle.read_text.proofs.component.next_line.Goals as goal

pub returns-in_default : goal.returns-in_default
returns-in_default g c = rw c.at.ensures (turned_loose _ _ _ _ c.requires.1 (subst (EndsLine _ _ _) c.in_default.is c.line_end.ensures) c.requires.2)

pub slice_bounds-line_kind-end : goal.slice_bounds-line_kind-end
slice_bounds-line_kind-end g c = line_count c.requires.1 (subst (EndsLine _ _ _) c.in-Some.is c.line_end.ensures)

pub line_kind-kind-requires : goal.line_kind-kind-requires
line_kind-kind-requires g c = (c.requires.0, line_inside c.requires.1 (subst (EndsLine _ _ _) c.in-Some.is c.line_end.ensures))

pub returns : goal.returns
returns g c = turned_whole _ _ _ _ c.requires.1 c.line_kind-kind.result (subst (EndsLine _ _ _) c.in-Some.is c.line_end.ensures) c.line_kind-kind.ensures
