-- `read_xml::children::children_verdict` meets its contract.
use Rattle.read_xml.specs.laws.Turning.{walking}
use Rattle.read_xml.proofs.children.children_verdict.Goals as goal

pub children-init : goal.children-init
children-init c = search walking
