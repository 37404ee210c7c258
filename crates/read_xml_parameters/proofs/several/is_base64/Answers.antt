-- `read_xml_parameters::several::is_base64` meets its contract.
use Rattle.read_xml_parameters.specs.laws.Several.{first_none, first_here}
use borrow.Author.Rules.{rules}
use Rattle.read_xml_parameters.proofs.several.is_base64.Goals as goal

pub returns-then-n : goal.returns-then-n
returns-then-n c = search (first_here, rules)

pub returns : goal.returns
returns c = search (first_none, rules)
