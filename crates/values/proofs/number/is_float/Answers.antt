-- `values::number::is_float` meets its contract.
use Rattle.values.specs.laws.ValueAt.{float_is}
use Rattle.values.proofs.number.is_float.Goals as goal

pub returns : goal.returns
returns g c = float_is _ _ _ _ _ c.read_float.result c.read_float.ensures c.is_some.ensures
