-- `times::letters::letter` meets its contract.
use Rattle.times.specs.laws.Letters.{lettering}
use Rattle.times.proofs.letters.letter.Goals as goal

pub returns-then-exact : goal.returns-then-exact
returns-then-exact g c = search lettering

pub returns : goal.returns
returns g c = search lettering
