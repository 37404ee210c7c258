-- `read_xml_value::types::first_type` meets its contract.
use Rattle.read_xml_value.specs.laws.ElementTypes.{firsts}
use Rattle.read_xml_value.proofs.types.first_type.Goals as goal

pub nodes-preserved-in-Element : goal.nodes-preserved-in-Element
nodes-preserved-in-Element c = search firsts

pub nodes-preserved : goal.nodes-preserved
nodes-preserved c = search firsts

pub returns-in-Absent : goal.returns-in-Absent
returns-in-Absent c = (search firsts, λ h. h)

pub returns-in-Some : goal.returns-in-Some
returns-in-Some c = (search firsts, λ h. search firsts)
