-- `read_jcal::named_fault` meets its contract.
use Rattle.read_jcal.specs.laws.Properties.{naming}
use Rattle.read_jcal.proofs.property.named_fault.Goals as goal

pub returns : goal.returns
returns c = search naming
