-- `read_jcal_value::binary_read` meets its contract.
use Rattle.read_jcal_value.specs.laws.Elements.{kinds}
use Rattle.read_jcal_value.proofs.typed.binary_read.Goals as goal

pub returns-then-is_string : goal.returns-then-is_string
returns-then-is_string c = search kinds

pub returns-else-is_string : goal.returns-else-is_string
returns-else-is_string c = search kinds
