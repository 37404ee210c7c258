-- `read_jcal::values_fault` meets its contract.
use Rattle.read_jcal.specs.laws.Properties.{valuing}
use Rattle.read_jcal.proofs.property.values_fault.Goals as goal

pub returns-then-not-values_read : goal.returns-then-not-values_read
returns-then-not-values_read c = search valuing

pub returns : goal.returns
returns c = search valuing
