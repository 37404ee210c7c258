use Rattle.source.specs.laws.Facts.{cut_over}
use Rattle.source.proofs.carets.CaretsEncoding.cut.Goals as goal

pub returns : goal.returns
returns g c = cut_over _
