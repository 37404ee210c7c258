-- `read_jcal::shape_of` meets its contract.
use Rattle.read_jcal.specs.laws.Components.{shapes}
use Rattle.read_jcal.proofs.component.shape_of.Goals as goal

pub returns-then-not-is_string : goal.returns-then-not-is_string
returns-then-not-is_string c = search shapes

pub returns-then-is_bad_name : goal.returns-then-is_bad_name
returns-then-is_bad_name c = search shapes

pub returns : goal.returns
returns c = search shapes
