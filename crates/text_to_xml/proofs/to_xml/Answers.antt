-- `text_to_xml::to_xml` meets its contract.
use mathlib.Core.Path.{refl, sym, subst}
use lib.Seq.{length-take-le}
use borrow.Author.Rules.{rules}
use Rattle.read_text_whole.specs.Whole.{Reads}
use Rattle.text_to_xml.specs.laws.Steps.{whole_refused, whole_kept}
use Rattle.text_to_xml.proofs.to_xml.Goals as goal

pub slice_bounds-written-end : goal.slice_bounds-written-end
slice_bounds-written-end c = (subst (Reads _ _ _ _) c.in-Ok.is c.read_whole.ensures.0).inside

pub slice_bounds-written-end-in-Ok : goal.slice_bounds-written-end-in-Ok
slice_bounds-written-end-in-Ok c = sym (length-take-le _ _ (subst (Reads _ _ _ _) c.in-Ok.is c.read_whole.ensures.0).inside)

pub written-requires : goal.written-requires
written-requires c = (subst (Reads _ _ _ _) c.in-Ok.is c.read_whole.ensures.0).short

pub returns-in-Ok : goal.returns-in-Ok
returns-in-Ok c = whole_kept c.args.input.now c.args.work.now c.args.out.now c.args.edition c.in-Ok.kept (subst (Reads _ _ _ _) c.in-Ok.is c.read_whole.ensures.0) c.read_whole.ensures.1 c.written.ensures

pub returns-in-Err : goal.returns-in-Err
returns-in-Err c = whole_refused c.args.input.now c.args.work.now c.args.out.now c.args.edition c.in-Err.fault (subst (Reads _ _ _ _) c.in-Err.is c.read_whole.ensures.0) c.from.ensures c.read_whole.ensures.1
