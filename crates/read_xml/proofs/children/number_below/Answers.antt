-- `read_xml::children::number_below` meets its contract.
use Rattle.octets.specs.laws.Pick.{branching}
use Rattle.read_xml.proofs.children.number_below.Goals as goal

pub returns-then-i-n : goal.returns-then-i-n
returns-then-i-n c = search branching

pub returns-else-i-n : goal.returns-else-i-n
returns-else-i-n c = search branching
