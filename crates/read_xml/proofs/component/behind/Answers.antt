-- `read_xml::component::behind` meets its contract.
use Rattle.read_xml.specs.laws.Components.{following}
use Rattle.read_xml.proofs.component.behind.Goals as goal

pub returns-in-Absent : goal.returns-in-Absent
returns-in-Absent c = search following

pub returns-in-Element : goal.returns-in-Element
returns-in-Element c = search following

pub nodes-preserved : goal.nodes-preserved
nodes-preserved c = search following

pub returns-else-is_space : goal.returns-else-is_space
returns-else-is_space c = search following

pub returns-in-Referred : goal.returns-in-Referred
returns-in-Referred c = search following
