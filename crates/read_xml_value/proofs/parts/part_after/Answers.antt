-- `read_xml_value::parts::part_after` meets its contract.
use Rattle.read_xml_value.specs.laws.Parts.{slots}
use Rattle.read_xml_value.proofs.parts.part_after.Goals as goal

pub returns-then-k-next : goal.returns-then-k-next
returns-then-k-next c = search slots

pub returns-then-is_within : goal.returns-then-is_within
returns-then-is_within c = search slots

pub returns-else-is_within : goal.returns-else-is_within
returns-else-is_within c = search slots

pub returns-else-i-part_count : goal.returns-else-i-part_count
returns-else-i-part_count c = search slots
