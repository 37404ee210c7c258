-- `write_text::content::put_all_values` meets its contract.
use borrow.Author.Rules.{rules}
use Rattle.write_text.specs.laws.Content.{values_put}
use Rattle.write_text.proofs.content.put_all_values.Goals as goal

pub returns : goal.returns
returns c = search (values_put, rules)
