-- `read_xml_nodes::heads::token_head` meets its contract.
use Rattle.read_xml_nodes.specs.laws.HeadFound.{heads_found}
use Rattle.read_xml_nodes.proofs.heads.token_head.Goals as goal

pub returns-in-Start : goal.returns-in-Start
returns-in-Start c = search heads_found

pub returns-in-Empty : goal.returns-in-Empty
returns-in-Empty c = search heads_found

pub returns-in-Char : goal.returns-in-Char
returns-in-Char c = search heads_found

pub returns-in-Reference : goal.returns-in-Reference
returns-in-Reference c = search heads_found

pub returns-in-End : goal.returns-in-End
returns-in-End c = search heads_found
