-- `read_xml_parameters::leaf::is_value` meets its contract.
use Rattle.read_xml_parameters.specs.laws.Leaves.{value_named, value_other}
use borrow.Author.Rules.{rules}
use Rattle.read_xml_parameters.proofs.leaf.is_value.Goals as goal

pub returns-then-k-t : goal.returns-then-k-t
returns-then-k-t c = search (value_named, rules)

pub returns : goal.returns
returns c = search (value_other, rules)
