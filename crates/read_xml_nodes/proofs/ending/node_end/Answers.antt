-- `read_xml_nodes::ending::node_end` meets its contract.
use Rattle.read_xml_nodes.specs.laws.HeadFound.{ends_found}
use Rattle.read_xml_nodes.proofs.ending.node_end.Goals as goal

pub returns-then-opens : goal.returns-then-opens
returns-then-opens c = search ends_found

pub returns-else-opens : goal.returns-else-opens
returns-else-opens c = search ends_found
