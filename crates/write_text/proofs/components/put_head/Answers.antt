-- `write_text::components::put_head` meets its contract.
use borrow.Author.Rules.{rules}
use Rattle.write_text.specs.laws.Walks.{head_put}
use Rattle.write_text.proofs.components.put_head.Goals as goal

pub returns : goal.returns
returns c = search (head_put, rules)
