-- `read_xml_nodes::first::first_element` meets its contract.
use Rattle.read_xml_nodes.specs.laws.Walks.{firsts}
use Rattle.read_xml_nodes.proofs.first.first_element.Goals as goal

pub loop-c-preserved-then-is_plain : goal.loop-c-preserved-then-is_plain
loop-c-preserved-then-is_plain c = search firsts

pub returns-in-Absent : goal.returns-in-Absent
returns-in-Absent c = search firsts

pub returns-in-Element : goal.returns-in-Element
returns-in-Element c = search firsts

pub loop-c-preserved : goal.loop-c-preserved
loop-c-preserved c = search firsts

pub returns : goal.returns
returns c = search firsts
