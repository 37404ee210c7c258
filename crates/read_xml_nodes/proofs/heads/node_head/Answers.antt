-- `read_xml_nodes::heads::node_head` meets its contract.
use Rattle.read_xml_nodes.specs.laws.HeadFound.{heads_found}
use Rattle.read_xml_nodes.proofs.heads.node_head.Goals as goal

pub returns-then-is_plain : goal.returns-then-is_plain
returns-then-is_plain c = search heads_found
