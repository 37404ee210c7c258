-- `read_jcal::shape_fault` meets its contract.
use Rattle.read_jcal.specs.laws.Properties.{shaping}
use Rattle.read_jcal.proofs.property.shape_fault.Goals as goal

pub returns-then-not-is_string : goal.returns-then-not-is_string
returns-then-not-is_string c = search shaping

pub returns-then-not-is_object : goal.returns-then-not-is_object
returns-then-not-is_object c = search shaping

pub returns : goal.returns
returns c = search shaping
