-- `values::number::is_integer` meets its contract.
use Rattle.values.specs.laws.ValueAt.{integer_is}
use Rattle.values.proofs.number.is_integer.Goals as goal

pub returns : goal.returns
returns g c = integer_is _ _ c.read_integer.result c.read_integer.ensures c.is_some.ensures
