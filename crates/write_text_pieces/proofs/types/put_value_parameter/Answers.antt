-- `write_text_pieces::types::put_value_parameter` meets its contract.
use borrow.Author.Rules.{rules}
use Rattle.write_text_pieces.specs.laws.Typing.{value_default, value_other}
use Rattle.write_text_pieces.proofs.types.put_value_parameter.Goals as goal

pub returns-then-t-default : goal.returns-then-t-default
returns-then-t-default c = search (value_default, rules)

pub returns : goal.returns
returns c = search (value_other, rules)
