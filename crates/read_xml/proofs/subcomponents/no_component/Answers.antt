-- `read_xml::subcomponents::no_component` meets its contract.
use Rattle.read_xml.specs.laws.Subcomponents.{refusing}
use Rattle.read_xml.proofs.subcomponents.no_component.Goals as goal

pub returns-then-bad_component : goal.returns-then-bad_component
returns-then-bad_component c = search refusing

pub returns-else-bad_component : goal.returns-else-bad_component
returns-else-bad_component c = search refusing
