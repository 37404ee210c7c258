-- `read_jcal_value::boolean_read` meets its contract.
use Rattle.read_jcal_value.specs.laws.Elements.{kinds}
use Rattle.read_jcal_value.specs.laws.Typed.{no_boolean}
use Rattle.read_jcal_value.proofs.typed.boolean_read.Goals as goal

pub returns-then-is_literal : goal.returns-then-is_literal
returns-then-is_literal c = search kinds

pub returns-else-is_literal : goal.returns-else-is_literal
returns-else-is_literal c = search (no_boolean, kinds)
