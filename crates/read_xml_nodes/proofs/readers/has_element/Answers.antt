-- `read_xml_nodes::readers::has_element` meets its contract.
use Rattle.read_xml_nodes.specs.laws.Walks.{first_asked}
use Rattle.read_xml_nodes.proofs.readers.has_element.Goals as goal

pub returns : goal.returns
returns c = search first_asked
