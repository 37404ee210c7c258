-- `write_text::content::put_all_parameters` meets its contract.
use borrow.Author.Rules.{rules}
use Rattle.write_text.specs.laws.Content.{parameters_put}
use Rattle.write_text.proofs.content.put_all_parameters.Goals as goal

pub returns : goal.returns
returns c = search (parameters_put, rules)
