-- `times::letters::capital` meets its contract.
use Rattle.octets.specs.laws.Pick.{branching_joined}
use Rattle.times.proofs.letters.capital.Goals as goal

pub returns-then-u-lt-LOWER_A : goal.returns-then-u-lt-LOWER_A
returns-then-u-lt-LOWER_A c = search branching_joined

pub returns-then-u-gt-LOWER_Z : goal.returns-then-u-gt-LOWER_Z
returns-then-u-gt-LOWER_Z c = search branching_joined

pub returns : goal.returns
returns c = search branching_joined
