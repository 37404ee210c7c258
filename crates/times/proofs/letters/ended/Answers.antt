-- `times::letters::ended` meets its contract.
use Rattle.times.specs.laws.Letters.{lettering}
use Rattle.times.proofs.letters.ended.Goals as goal

pub returns : goal.returns
returns g c = search lettering
