-- `read_xml::component::child_at` meets its contract.
use Rattle.read_xml.specs.laws.Components.{meeting}
use Rattle.read_xml.proofs.component.child_at.Goals as goal

pub returns-in-Absent : goal.returns-in-Absent
returns-in-Absent c = search meeting

pub returns-in-Properties : goal.returns-in-Properties
returns-in-Properties c = search meeting

pub returns-in-Components : goal.returns-in-Components
returns-in-Components c = search meeting

pub returns-in-Other : goal.returns-in-Other
returns-in-Other c = search meeting

pub returns-then-is_space : goal.returns-then-is_space
returns-then-is_space c = search meeting

pub returns-else-is_space : goal.returns-else-is_space
returns-else-is_space c = search meeting

pub returns-in-Referred : goal.returns-in-Referred
returns-in-Referred c = search meeting
