-- `read_xml_nodes::root::root_node` meets its contract.
use Rattle.read_xml_nodes.specs.laws.RootFound.{roots}
use Rattle.read_xml_nodes.proofs.root.root_node.Goals as goal

pub returns-in-Start : goal.returns-in-Start
returns-in-Start c = search roots

pub returns-in-Empty : goal.returns-in-Empty
returns-in-Empty c = search roots

pub returns-in-End : goal.returns-in-End
returns-in-End c = search roots
