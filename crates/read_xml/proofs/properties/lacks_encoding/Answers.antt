-- `read_xml::properties::lacks_encoding` meets its contract.
use Rattle.read_xml.specs.laws.Properties.{lacking}
use Rattle.read_xml.proofs.properties.lacks_encoding.Goals as goal

pub returns-then-t-eq-BINARY : goal.returns-then-t-eq-BINARY
returns-then-t-eq-BINARY c = search lacking

pub returns-else-t-eq-BINARY : goal.returns-else-t-eq-BINARY
returns-else-t-eq-BINARY c = search lacking
