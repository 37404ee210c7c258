-- `read_xml_value::parts::at_end` meets its contract.
use Rattle.read_xml_value.specs.laws.PartContents.{ending}
use Rattle.read_xml_value.proofs.parts.at_end.Goals as goal

pub returns-then-is_filled : goal.returns-then-is_filled
returns-then-is_filled c = search ending

pub returns-else-is_filled : goal.returns-else-is_filled
returns-else-is_filled c = search ending
