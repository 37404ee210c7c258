-- `times::duration::read_duration` meets its contract.
use Rattle.times.specs.laws.DurationAt.{spanning}
use Rattle.times.proofs.duration.read_duration.Goals as goal

pub returns-then-a-eq-PLUS : goal.returns-then-a-eq-PLUS
returns-then-a-eq-PLUS g c = search spanning

pub returns-then-a-eq-HYPHEN : goal.returns-then-a-eq-HYPHEN
returns-then-a-eq-HYPHEN g c = search spanning

pub returns : goal.returns
returns g c = search spanning
