-- `values::number::is_boolean` meets its contract.
use Rattle.values.specs.laws.ValueAt.{boolean_is}
use Rattle.values.proofs.number.is_boolean.Goals as goal

pub returns : goal.returns
returns g c = boolean_is _ _ c.read_boolean.ensures c.is_some.ensures
