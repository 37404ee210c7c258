-- `read_xml_value::types::element_type` meets its contract.
use Rattle.read_xml_value.specs.laws.ElementTypes.{naming}
use Rattle.read_xml_value.proofs.types.element_type.Goals as goal

pub returns-then-t-lt15 : goal.returns-then-t-lt15
returns-then-t-lt15 c = search naming

pub returns-else-t-lt15 : goal.returns-else-t-lt15
returns-else-t-lt15 c = search naming
