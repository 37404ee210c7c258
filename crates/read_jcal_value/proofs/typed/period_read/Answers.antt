-- `read_jcal_value::period_read` meets its contract.
use Rattle.read_jcal_value.specs.laws.Elements.{kinds}
use Rattle.read_jcal_value.proofs.typed.period_read.Goals as goal

pub returns-then-is_array : goal.returns-then-is_array
returns-then-is_array c = search kinds

pub returns-else-is_array : goal.returns-else-is_array
returns-else-is_array c = search kinds
