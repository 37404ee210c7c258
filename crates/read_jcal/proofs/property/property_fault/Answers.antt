-- `read_jcal::property_fault` meets its contract.
use Rattle.read_jcal.specs.laws.Properties.{faulting}
use Rattle.read_jcal.proofs.property.property_fault.Goals as goal

pub has_bad_names-requires : goal.has_bad_names-requires
has_bad_names-requires c = search faulting

pub returns-then-has_bad_names : goal.returns-then-has_bad_names
returns-then-has_bad_names c = search faulting

pub shape_fault-requires : goal.shape_fault-requires
shape_fault-requires c = search faulting

pub returns : goal.returns
returns c = search faulting
