use Rattle.std.proofs.Common.{arith}
use Rattle.source.specs.laws.Facts.{stays}
use Rattle.source.proofs.points.Unit.step.Goals as goal

pub returns-then-self-lt-END : goal.returns-then-self-lt-END
returns-then-self-lt-END c m s at f p = p

pub returns : goal.returns
returns c m s at f p = stays p (omega (arith, p.small)) f
