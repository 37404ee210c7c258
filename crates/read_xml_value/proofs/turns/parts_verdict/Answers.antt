-- `read_xml_value::turns::parts_verdict` meets its contract.
use Rattle.read_xml_value.specs.laws.Turning.{walking}
use Rattle.read_xml_value.proofs.turns.parts_verdict.Goals as goal

pub children-init : goal.children-init
children-init c = search walking
