-- `read_xml::component::is_part` meets its contract.
use Rattle.read_xml.specs.laws.Components.{parting}
use Rattle.read_xml.proofs.component.is_part.Goals as goal

pub returns-then-properties : goal.returns-then-properties
returns-then-properties c = search parting

pub returns-else-properties : goal.returns-else-properties
returns-else-properties c = search parting
