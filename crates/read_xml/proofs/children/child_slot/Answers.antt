-- `read_xml::children::child_slot` meets its contract.
use Rattle.read_xml.specs.laws.Turning.{wording}
use Rattle.read_xml.proofs.children.child_slot.Goals as goal

pub returns : goal.returns
returns c = search wording
