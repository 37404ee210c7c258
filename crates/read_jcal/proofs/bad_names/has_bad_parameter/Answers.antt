-- `read_jcal::has_bad_parameter` meets its contract.
use Rattle.read_jcal.specs.laws.BadNames.{bad_names}
use Rattle.read_jcal.proofs.bad_names.has_bad_parameter.Goals as goal

pub returns-then-is_object : goal.returns-then-is_object
returns-then-is_object c = search bad_names

pub returns-else-is_object : goal.returns-else-is_object
returns-else-is_object c = search bad_names
