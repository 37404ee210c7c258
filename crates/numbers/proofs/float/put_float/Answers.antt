-- `numbers::float::put_float` meets its contract.
use Rattle.numbers.specs.laws.PutFloat.{put_all_float}
use Rattle.numbers.proofs.float.put_float.Goals as goal

pub returns : goal.returns
returns g c = put_all_float _ _ _ c.put_float_to.ensures
