-- `read_xml_parameters::several::is_single` meets its contract.
use Rattle.read_xml_parameters.specs.laws.Several.{single_none, single_not, single_one}
use borrow.Author.Rules.{rules}
use Rattle.read_xml_parameters.proofs.several.is_single.Goals as goal

pub returns-then-more : goal.returns-then-more
returns-then-more c = search (single_not, rules)

pub returns-then-n : goal.returns-then-n
returns-then-n c = search (single_one, rules)

pub returns : goal.returns
returns c = search (single_none, rules)
