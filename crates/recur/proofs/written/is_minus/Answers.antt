-- `recur::is_minus` meets its contract.
use Rattle.recur.specs.laws.PutShown.{minus_is}
use Rattle.recur.proofs.written.is_minus.Goals as goal

pub returns : goal.returns
returns g c = minus_is c.front_unit.ensures
