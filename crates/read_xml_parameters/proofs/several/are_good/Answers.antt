-- `read_xml_parameters::several::are_good` meets its contract.
use Rattle.read_xml_parameters.specs.laws.Several.{good_other, good_listed, good_single}
use borrow.Author.Rules.{rules}
use Rattle.read_xml_parameters.proofs.several.are_good.Goals as goal

pub returns-then-listed : goal.returns-then-listed
returns-then-listed c = search (good_listed, rules)

pub returns-then-values : goal.returns-then-values
returns-then-values c = search (good_single, rules)

pub returns : goal.returns
returns c = search (good_other, rules)
