-- `read_xml::properties::is_misplaced` meets its contract.
use Rattle.read_xml.specs.laws.Properties.{standing}
use Rattle.read_xml.proofs.properties.is_misplaced.Goals as goal

pub returns-then-row-lt-KNOWN : goal.returns-then-row-lt-KNOWN
returns-then-row-lt-KNOWN c = search standing

pub returns-else-row-lt-KNOWN : goal.returns-else-row-lt-KNOWN
returns-else-row-lt-KNOWN c = search standing
