-- `read_xml::properties::parameters_at` meets its contract.
use Rattle.read_xml.specs.laws.Properties.{seeking}
use Rattle.read_xml.proofs.properties.parameters_at.Goals as goal

pub returns-in-Absent : goal.returns-in-Absent
returns-in-Absent c = search seeking

pub returns-then-slot-eq0 : goal.returns-then-slot-eq0
returns-then-slot-eq0 c = search seeking

pub returns-else-slot-eq0 : goal.returns-else-slot-eq0
returns-else-slot-eq0 c = search seeking

pub nodes-preserved-in-Element : goal.nodes-preserved-in-Element
nodes-preserved-in-Element c = search seeking

pub nodes-preserved : goal.nodes-preserved
nodes-preserved c = search seeking
