-- `texts::read_after` meets its contract.
use Rattle.texts.specs.laws.Kept.{reading_uri}
use Rattle.texts.proofs.uri.read_after.Goals as goal

pub returns-then-t-eq-END : goal.returns-then-t-eq-END
returns-then-t-eq-END g c = search reading_uri

pub loop-t-preserved : goal.loop-t-preserved
loop-t-preserved g c = search reading_uri

pub returns-then-not-in_uri : goal.returns-then-not-in_uri
returns-then-not-in_uri g c = search reading_uri
