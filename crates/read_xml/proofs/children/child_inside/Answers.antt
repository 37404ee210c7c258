-- `read_xml::children::child_inside` meets its contract.
use Rattle.read_xml.specs.laws.Turning.{insides}
use Rattle.read_xml.proofs.children.child_inside.Goals as goal

pub returns-then-slot-eq0 : goal.returns-then-slot-eq0
returns-then-slot-eq0 c = search insides

pub returns-else-slot-eq0 : goal.returns-else-slot-eq0
returns-else-slot-eq0 c = search insides
