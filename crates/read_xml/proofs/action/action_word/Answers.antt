-- `read_xml::action::action_word` meets its contract.
use Rattle.read_xml.specs.laws.ActionWord.{actions}
use Rattle.read_xml.proofs.action.action_word.Goals as goal

pub returns-in-Absent : goal.returns-in-Absent
returns-in-Absent c = search actions

pub returns-then-t-eq-TEXT : goal.returns-then-t-eq-TEXT
returns-then-t-eq-TEXT c = search actions

pub returns-else-t-eq-TEXT : goal.returns-else-t-eq-TEXT
returns-else-t-eq-TEXT c = search actions

pub nodes-preserved-in-Element : goal.nodes-preserved-in-Element
nodes-preserved-in-Element c = search actions

pub nodes-preserved : goal.nodes-preserved
nodes-preserved c = search actions
