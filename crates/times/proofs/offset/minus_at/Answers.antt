-- `times::offset::minus_at` meets its contract.
use Rattle.std.proofs.Common.{rules}
use Rattle.times.specs.laws.OffsetAlong.{minus_here}
use Rattle.times.proofs.offset.minus_at.Goals as goal

pub returns : goal.returns
returns g c = search (minus_here, rules)
