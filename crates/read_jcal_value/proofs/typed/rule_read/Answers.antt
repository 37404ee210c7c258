-- `read_jcal_value::rule_read` meets its contract.
use Rattle.read_jcal_value.specs.laws.Elements.{kinds}
use Rattle.read_jcal_value.proofs.typed.rule_read.Goals as goal

pub returns-then-is_object : goal.returns-then-is_object
returns-then-is_object c = search kinds

pub returns-else-is_object : goal.returns-else-is_object
returns-else-is_object c = search kinds
