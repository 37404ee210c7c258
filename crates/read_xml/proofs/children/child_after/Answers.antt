-- `read_xml::children::child_after` meets its contract.
use Rattle.read_xml.specs.laws.Turning.{aftering}
use Rattle.read_xml.proofs.children.child_after.Goals as goal

pub returns-then-slot-next : goal.returns-then-slot-next
returns-then-slot-next c = search aftering

pub returns-then-several : goal.returns-then-several
returns-then-several c = search aftering

pub returns-else-several : goal.returns-else-several
returns-else-several c = search aftering

pub returns-else-slot-lt4 : goal.returns-else-slot-lt4
returns-else-slot-lt4 c = search aftering
