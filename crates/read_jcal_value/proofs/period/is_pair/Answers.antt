-- `read_jcal_value::is_pair` meets its contract.
use Rattle.octets.specs.laws.Pick.{branching}
use Rattle.read_jcal_value.proofs.period.is_pair.Goals as goal

pub returns-then-is_string_of-2 : goal.returns-then-is_string_of-2
returns-then-is_string_of-2 c = search branching

pub returns-else-is_string_of-2 : goal.returns-else-is_string_of-2
returns-else-is_string_of-2 c = search branching

pub returns-else-is_string_of : goal.returns-else-is_string_of
returns-else-is_string_of c = search branching
