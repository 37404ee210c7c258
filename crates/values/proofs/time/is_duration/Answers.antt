-- `values::time::is_duration` meets its contract.
use Rattle.values.specs.laws.ValueAt.{duration_is}
use Rattle.values.proofs.time.is_duration.Goals as goal

pub returns : goal.returns
returns g c = duration_is _ _ _ _ c.read_duration.result c.read_duration.ensures c.is_some.ensures
