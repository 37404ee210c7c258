-- `write_text::children::is_status_name` meets its contract.
use Rattle.write_text.specs.laws.Parameters.{naming}
use Rattle.write_text.proofs.children.is_status_name.Goals as goal

pub is_word-code-requires : goal.is_word-code-requires
is_word-code-requires c = search naming

pub returns-then-code : goal.returns-then-code
returns-then-code c = search naming

pub is_word-description-requires : goal.is_word-description-requires
is_word-description-requires c = search naming

pub returns-then-description : goal.returns-then-description
returns-then-description c = search naming

pub is_word-requires : goal.is_word-requires
is_word-requires c = search naming

pub returns : goal.returns
returns c = search naming
