use Rattle.source.specs.laws.Facts.{settled_over}
use Rattle.source.proofs.carets.CaretsEncoding.settled.Goals as goal

pub returns : goal.returns
returns g c = settled_over _ _ _
