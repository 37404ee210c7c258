-- `read_jcal_value::values_read` meets its contract.
use Rattle.read_jcal_value.specs.laws.Values.{answering}
use Rattle.read_jcal_value.proofs.valued.values_read.Goals as goal

pub returns-then-permits_type : goal.returns-then-permits_type
returns-then-permits_type c = search answering

pub returns-else-permits_type : goal.returns-else-permits_type
returns-else-permits_type c = search answering
