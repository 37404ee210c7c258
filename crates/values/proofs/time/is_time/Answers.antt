-- `values::time::is_time` meets its contract.
use Rattle.values.specs.laws.ValueAt.{time_is}
use Rattle.values.proofs.time.is_time.Goals as goal

pub returns : goal.returns
returns g c = time_is _ _ c.read_time.result c.read_time.ensures c.is_some.ensures
