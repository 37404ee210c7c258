-- `read_xml_parameters::several::are_spelled` meets its contract.
use borrow.Author.Rules.{rules}
use Rattle.read_xml_parameters.specs.laws.Several.{spelled_old, spelled_new}
use Rattle.read_xml_parameters.proofs.several.are_spelled.Goals as goal

pub returns-in-Rfc5545 : goal.returns-in-Rfc5545
returns-in-Rfc5545 c = search (spelled_old, rules)

pub returns-in-Rfc6868 : goal.returns-in-Rfc6868
returns-in-Rfc6868 c = search (spelled_new, rules)
