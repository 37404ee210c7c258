-- `texts::read_one_text` meets its contract.
use borrow.Author.Rules.{rules}
use Rattle.texts.specs.laws.Unescaped.{text_alone}
use Rattle.texts.proofs.text.read_one_text.Goals as goal

pub returns : goal.returns
returns g c = rw text_alone (search rules)
