-- `read_jcal_value::float_read` meets its contract.
use Rattle.read_jcal_value.specs.laws.Elements.{kinds}
use Rattle.read_jcal_value.proofs.typed.float_read.Goals as goal

pub returns-then-is_number : goal.returns-then-is_number
returns-then-is_number c = search kinds

pub returns-else-is_number : goal.returns-else-is_number
returns-else-is_number c = search kinds
