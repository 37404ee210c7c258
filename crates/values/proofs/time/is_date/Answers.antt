-- `values::time::is_date` meets its contract.
use Rattle.values.specs.laws.ValueAt.{date_is}
use Rattle.values.proofs.time.is_date.Goals as goal

pub returns : goal.returns
returns g c = date_is _ _ c.read_date.result c.read_date.ensures c.is_some.ensures
