-- `read_xml_value::parts::slot_number` meets its contract.
use Rattle.read_xml_value.specs.laws.Parts.{slots}
use Rattle.read_xml_value.proofs.parts.slot_number.Goals as goal

pub returns-then-i-lt2 : goal.returns-then-i-lt2
returns-then-i-lt2 c = search slots

pub returns-else-i-lt2 : goal.returns-else-i-lt2
returns-else-i-lt2 c = search slots
