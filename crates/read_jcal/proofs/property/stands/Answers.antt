-- `read_jcal::stands` meets its contract.
use Rattle.read_jcal.specs.laws.Properties.{standing}
use Rattle.read_jcal.proofs.property.stands.Goals as goal

pub returns-then-row-lt-KNOWN : goal.returns-then-row-lt-KNOWN
returns-then-row-lt-KNOWN c = search standing

pub returns-else-row-lt-KNOWN : goal.returns-else-row-lt-KNOWN
returns-else-row-lt-KNOWN c = search standing
