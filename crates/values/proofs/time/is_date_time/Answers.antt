-- `values::time::is_date_time` meets its contract.
use Rattle.values.specs.laws.ValueAt.{date_time_is}
use Rattle.values.proofs.time.is_date_time.Goals as goal

pub returns : goal.returns
returns g c = date_time_is _ _ c.read_date_time.result c.read_date_time.ensures c.is_some.ensures
