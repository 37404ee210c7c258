-- `read_xml::subcomponents::method_inside` meets its contract.
use Rattle.read_xml.specs.laws.Subcomponents.{handing}
use Rattle.read_xml.proofs.subcomponents.method_inside.Goals as goal

pub returns-then-had : goal.returns-then-had
returns-then-had c = search handing

pub returns-else-had : goal.returns-else-had
returns-else-had c = search handing
