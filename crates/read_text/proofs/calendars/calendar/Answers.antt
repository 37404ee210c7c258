-- `read_text::calendars::calendar` meets its contract.
use mathlib.Core.Path.{subst}
use borrow.Author.Rules.{rules}
use Rattle.read_text_line.specs.LineEnd.{EndsLine}
use Rattle.read_text_line.specs.laws.Ready.{line_next, line_count, line_inside}
use Rattle.read_text.specs.laws.Outer.{outer_loose, outer_fault, outer_number, outer_body}
use Rattle.std.proofs.Common.{◌≡◌, Err, rules}
use Rattle.read_text.proofs.calendars.calendar.Goals as goal

pub returns-in_default : goal.returns-in_default
returns-in_default g c = rw c.at.ensures (outer_loose _ c.requires.0 c.requires.1 (subst (EndsLine _ _ _) c.in_default.is c.line_end.ensures))

pub slice_bounds-line_opens-end : goal.slice_bounds-line_opens-end
slice_bounds-line_opens-end g c = line_count c.requires.0 (subst (EndsLine _ _ _) c.in-Some.is c.line_end.ensures)

pub line_opens-requires : goal.line_opens-requires
line_opens-requires g c = line_inside c.requires.0 (subst (EndsLine _ _ _) c.in-Some.is c.line_end.ensures)

pub slice_bounds-body-end : goal.slice_bounds-body-end
slice_bounds-body-end g c = line_count c.requires.0 (subst (EndsLine _ _ _) c.in-Some.is c.line_end.ensures)

pub body-requires : goal.body-requires
body-requires g c = (line_next c.requires.0 (subst (EndsLine _ _ _) c.in-Some.is c.line_end.ensures), outer_number _ c.line_opens.result c.requires.0 (subst (EndsLine _ _ _) c.in-Some.is c.line_end.ensures) c.line_opens.ensures c.in_ok-v.was)

pub returns : goal.returns
returns g c = outer_body _ c.line_opens.result c.requires.0 (subst (EndsLine _ _ _) c.in-Some.is c.line_end.ensures) c.line_opens.ensures _ c.in_ok-v.was c.body.ensures

pub returns-in_err-v : goal.returns-in_err-v
returns-in_err-v g c = let e : c.from_residual.result ≡ Err c.in_err-v.field-0.0 = search rules in rw e (outer_fault _ c.line_opens.result c.requires.0 (subst (EndsLine _ _ _) c.in-Some.is c.line_end.ensures) c.line_opens.ensures c.in_err-v.was)
