-- `values::text::is_cal_address` meets its contract.
use Rattle.values.specs.laws.ValueAt.{address_is}
use Rattle.values.proofs.text.is_cal_address.Goals as goal

pub returns : goal.returns
returns g c = address_is _ _ c.read_uri.ensures
