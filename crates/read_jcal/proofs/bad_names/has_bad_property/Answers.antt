-- `read_jcal::has_bad_property` meets its contract.
use Rattle.read_jcal.specs.laws.BadNames.{bad_names}
use Rattle.read_jcal.proofs.bad_names.has_bad_property.Goals as goal

pub returns-then-is_string : goal.returns-then-is_string
returns-then-is_string c = search bad_names

pub returns-else-is_string : goal.returns-else-is_string
returns-else-is_string c = search bad_names
