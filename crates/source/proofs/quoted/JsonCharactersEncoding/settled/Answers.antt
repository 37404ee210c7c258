use Rattle.source.specs.laws.Facts.{settled_quoted}
use Rattle.source.proofs.quoted.JsonCharactersEncoding.settled.Goals as goal

pub returns : goal.returns
returns c = settled_quoted _ _
