-- `read_xml_nodes::readers::inner_element` meets its contract.
use Rattle.read_xml_nodes.specs.laws.Walks.{first_asked}
use Rattle.read_xml_nodes.proofs.readers.inner_element.Goals as goal

pub returns-in-Some : goal.returns-in-Some
returns-in-Some c = search first_asked

pub returns-in-None : goal.returns-in-None
returns-in-None c = search first_asked
