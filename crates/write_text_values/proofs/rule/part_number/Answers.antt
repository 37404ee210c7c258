-- `write_text_values::rule::part_number` meets its contract.
use lib.Seq.{length-take-le}
use Rattle.names.specs.laws.Table.{by_table}
use Rattle.read_xml_value.specs.laws.Parts.{recur_names_are}
use borrow.Author.Rules.{rules}
use Rattle.write_text_values.proofs.rule.part_number.Goals as goal

pub slice_bounds-find_word-end : goal.slice_bounds-find_word-end
slice_bounds-find_word-end c = search (length-take-le, rules)

pub returns : goal.returns
returns c = by_table _ recur_names_are c.find_word.ensures
