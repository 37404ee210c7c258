use borrow.Author.Rules.{rules}
use Rattle.source.proofs.quoted.JsonCharactersEncoding.step.Goals as goal

pub returns : goal.returns
returns c = c.step.ensures _ _ _ (search rules) c.quoted_unit.ensures
