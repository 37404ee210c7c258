-- `read_jcal::known_fault` meets its contract.
use Rattle.read_jcal.specs.laws.Properties.{knowing}
use Rattle.read_jcal.proofs.property.known_fault.Goals as goal

pub returns-then-not-is_amount : goal.returns-then-not-is_amount
returns-then-not-is_amount c = search knowing

pub returns-then-not-stands : goal.returns-then-not-stands
returns-then-not-stands c = search knowing

pub returns-then-not-parameters_good : goal.returns-then-not-parameters_good
returns-then-not-parameters_good c = search knowing

pub returns : goal.returns
returns c = search knowing
