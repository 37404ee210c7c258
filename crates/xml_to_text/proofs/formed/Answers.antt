-- `xml_to_text::formed` meets its contract. Assumes nothing.
use Rattle.xml_to_text.specs.laws.Steps.{xml_refused, xml_fine}
use Rattle.read_xml_tokens.specs.Formed.{Formed}
use native.Mathlib.Omega.{arith}
use mathlib.Core.Path.{subst}
use borrow.Author.Rules.{rules}
use Rattle.xml_to_text.proofs.formed.Goals as goal

pub judged-requires : goal.judged-requires
judged-requires c = (omega (arith, c.requires), c.in-Ok.ensures.is)

pub returns-in-Err : goal.returns-in-Err
returns-in-Err c = xml_refused _ c.args.s.now c.args.out.now c.in-Err.fault c.in-Err.ensures.is c.from.ensures

pub returns-in-Ok : goal.returns-in-Ok
returns-in-Ok c = xml_fine _ c.args.s.now c.args.out.now c.in-Ok.ensures.is c.judged.ensures
