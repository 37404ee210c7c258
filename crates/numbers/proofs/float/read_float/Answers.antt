-- `numbers::float::read_float` meets its contract.
use Rattle.numbers.specs.laws.ReadFloat.{float_all}
use Rattle.numbers.proofs.float.read_float.Goals as goal

pub returns : goal.returns
returns g c = float_all _ _ _ _ c.float_to.ensures
