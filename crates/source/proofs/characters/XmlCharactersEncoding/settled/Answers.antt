use Rattle.source.specs.laws.Facts.{settled_characters}
use Rattle.source.proofs.characters.XmlCharactersEncoding.settled.Goals as goal

pub returns : goal.returns
returns c = settled_characters _ _
