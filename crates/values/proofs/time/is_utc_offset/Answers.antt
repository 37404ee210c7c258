-- `values::time::is_utc_offset` meets its contract.
use Rattle.values.specs.laws.ValueAt.{offset_is}
use Rattle.values.proofs.time.is_utc_offset.Goals as goal

pub returns : goal.returns
returns g c = offset_is _ _ c.read_utc_offset.result c.read_utc_offset.ensures c.is_some.ensures
