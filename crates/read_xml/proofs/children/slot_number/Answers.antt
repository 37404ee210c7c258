-- `read_xml::children::slot_number` meets its contract.
use Rattle.octets.specs.laws.Pick.{branching}
use Rattle.read_xml.proofs.children.slot_number.Goals as goal

pub returns-then-p-eq-GEO : goal.returns-then-p-eq-GEO
returns-then-p-eq-GEO c = search branching

pub returns-then-p-eq-REQUEST_STATUS : goal.returns-then-p-eq-REQUEST_STATUS
returns-then-p-eq-REQUEST_STATUS c = search branching

pub returns-then-i-eq0 : goal.returns-then-i-eq0
returns-then-i-eq0 c = search branching

pub returns-then-i-lt16 : goal.returns-then-i-lt16
returns-then-i-lt16 c = search branching

pub returns-else-i-lt16 : goal.returns-else-i-lt16
returns-else-i-lt16 c = search branching
