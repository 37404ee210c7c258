-- `read_xml_value::value::typed_as` meets its contract.
use Rattle.read_xml_value.specs.laws.Values.{verdicts}
use Rattle.read_xml_value.proofs.value.typed_as.Goals as goal

pub returns-then-u-context : goal.returns-then-u-context
returns-then-u-context c = search verdicts

pub returns-else-permits_type : goal.returns-else-permits_type
returns-else-permits_type c = search verdicts
