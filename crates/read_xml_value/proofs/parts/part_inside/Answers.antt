-- `read_xml_value::parts::part_inside` meets its contract.
use Rattle.read_xml_value.specs.laws.PartContents.{parting}
use Rattle.read_xml_value.proofs.parts.part_inside.Goals as goal

pub returns-then-rule : goal.returns-then-rule
returns-then-rule c = search parting

pub returns-then-i-eq2 : goal.returns-then-i-eq2
returns-then-i-eq2 c = search parting

pub returns-else-i-eq2 : goal.returns-else-i-eq2
returns-else-i-eq2 c = search parting
