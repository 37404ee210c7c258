-- `values::any::read_value` meets its contract.
use Rattle.values.specs.laws.ValueAt.{value_yes, value_no}
use Rattle.values.proofs.any.read_value.Goals as goal

pub returns-then-is_from_binary : goal.returns-then-is_from_binary
returns-then-is_from_binary g c = value_yes _ _ _ _ c.is_from_binary.ensures c.if-is_from_binary.true

pub returns : goal.returns
returns g c = value_no _ _ _ _ c.is_from_binary.ensures c.if-is_from_binary.false
