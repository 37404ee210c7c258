-- `read_xml_value::type_word` meets its contract.
use borrow.Author.Rules.{rules}
use Rattle.names.specs.laws.Table.{by_table}
use Rattle.schema.specs.laws.Numbers.{type_words_are}
use Rattle.read_xml_value.proofs.types.type_word.Goals as goal

pub returns : goal.returns
returns c = by_table _ type_words_are c.find_word.ensures
