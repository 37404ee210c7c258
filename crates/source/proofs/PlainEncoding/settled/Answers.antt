use Rattle.source.specs.laws.Facts.{settled_plain}
use Rattle.source.proofs.PlainEncoding.settled.Goals as goal

pub returns : goal.returns
returns c = settled_plain _ _
