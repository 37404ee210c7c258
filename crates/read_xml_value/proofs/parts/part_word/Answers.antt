-- `read_xml_value::parts::part_word` meets its contract.
use Rattle.read_xml_value.specs.laws.Parts.{slots}
use Rattle.read_xml_value.proofs.parts.part_word.Goals as goal

pub returns-then-rule : goal.returns-then-rule
returns-then-rule c = search slots

pub returns-else-rule : goal.returns-else-rule
returns-else-rule c = search slots
