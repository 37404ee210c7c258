-- `text_entries::entry::entry_at` meets its contract.
use mathlib.Core.Path.{subst}
use Rattle.read_text_line.specs.LineEnd.{EndsLine}
use Rattle.read_text_line.specs.laws.Ready.{line_count}
use Rattle.text_entries.specs.laws.Entries.{name_count, found_loose, found_bad, found_named}
use Rattle.text_entries.proofs.entry.entry_at.Goals as goal

pub slice_bounds-line_at-end : goal.slice_bounds-line_at-end
slice_bounds-line_at-end g c = line_count c.requires.0 (subst (EndsLine _ _ _) c.in-Some.is c.line_end.ensures)

pub slice_bounds-kind_of-end : goal.slice_bounds-kind_of-end
slice_bounds-kind_of-end g c = name_count c.requires.0 (subst (EndsLine _ _ _) c.in-Some.is c.line_end.ensures) c.line_at.ensures c.in-Some-line_at.is

pub returns-in_default : goal.returns-in_default
returns-in_default g c = found_loose _ c.requires.0 _ c.requires.1 (subst (EndsLine _ _ _) c.in_default.is c.line_end.ensures)

pub returns-in_default-line_at : goal.returns-in_default-line_at
returns-in_default-line_at g c = found_bad _ c.requires.0 (subst (EndsLine _ _ _) c.in-Some.is c.line_end.ensures) c.line_at.ensures _ c.in_default-line_at.is

pub returns : goal.returns
returns g c = found_named _ c.requires.0 (subst (EndsLine _ _ _) c.in-Some.is c.line_end.ensures) c.line_at.ensures c.in-Some-line_at.is c.kind_of.ensures
