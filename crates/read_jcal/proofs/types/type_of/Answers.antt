-- `read_jcal::type_of` meets its contract.
use Rattle.read_jcal.specs.laws.Types.{typing}
use Rattle.read_jcal.proofs.types.type_of.Goals as goal

pub returns-then-not-is_string : goal.returns-then-not-is_string
returns-then-not-is_string c = search typing

pub returns-then-t-le-UNKNOWN : goal.returns-then-t-le-UNKNOWN
returns-then-t-le-UNKNOWN c = search typing

pub returns-else-t-le-UNKNOWN : goal.returns-else-t-le-UNKNOWN
returns-else-t-le-UNKNOWN c = search typing
