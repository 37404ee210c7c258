-- `read_xml_parameters::leaf::is_leaf` meets its contract.
use Rattle.read_xml_parameters.specs.laws.Leaves.{leaf_inner, leaf_chosen}
use borrow.Author.Rules.{rules}
use Rattle.read_xml_parameters.proofs.leaf.is_leaf.Goals as goal

pub returns-then-inner : goal.returns-then-inner
returns-then-inner c = search (leaf_inner, rules)

pub returns : goal.returns
returns c = search (leaf_chosen, rules)
