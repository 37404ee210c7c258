use borrow.Author.Rules.{rules}
use Rattle.source.proofs.characters.XmlCharactersEncoding.step.Goals as goal

pub returns : goal.returns
returns c = c.step.ensures _ _ _ (search rules) c.xml_unit.ensures
