-- `text_to_xml::to_xml_folded` meets its contract.
use mathlib.Core.Path.{refl, subst}
use borrow.Author.Rules.{rules}
use Rattle.read_text_whole.specs.Whole.{ReadsFolded}
use Rattle.text_to_xml.specs.laws.Steps.{folded_refused, folded_kept}
use Rattle.text_to_xml.proofs.folded.to_xml_folded.Goals as goal

pub written-requires : goal.written-requires
written-requires c = (subst (ReadsFolded _ _) c.in-Ok.is c.read_folded.ensures).short

pub returns-in-Ok : goal.returns-in-Ok
returns-in-Ok c = folded_kept c.args.input.now c.args.out.now c.args.edition (subst (ReadsFolded _ _) c.in-Ok.is c.read_folded.ensures) c.written.ensures

pub returns-in-Err : goal.returns-in-Err
returns-in-Err c = folded_refused c.args.input.now c.args.out.now c.args.edition c.in-Err.fault (subst (ReadsFolded _ _) c.in-Err.is c.read_folded.ensures) c.from.ensures
