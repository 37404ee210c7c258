-- `read_xml_nodes::closing::element_end` meets its contract.
use Rattle.read_xml_nodes.specs.laws.Closing.{closing}
use Rattle.read_xml_nodes.proofs.closing.element_end.Goals as goal

pub loop-at-preserved-then-is_plain : goal.loop-at-preserved-then-is_plain
loop-at-preserved-then-is_plain c = search closing

pub loop-at-preserved-in-Start : goal.loop-at-preserved-in-Start
loop-at-preserved-in-Start c = search closing

pub returns-then-depth-eq0 : goal.returns-then-depth-eq0
returns-then-depth-eq0 c = search closing

pub loop-at-preserved-in-End : goal.loop-at-preserved-in-End
loop-at-preserved-in-End c = search closing

pub loop-at-preserved : goal.loop-at-preserved
loop-at-preserved c = search closing

pub returns-in-Fault : goal.returns-in-Fault
returns-in-Fault c = search closing

pub returns : goal.returns
returns c = search closing
