-- `texts::uri::read_uri` meets its contract.
use Rattle.texts.specs.laws.Kept.{reading_uri}
use Rattle.texts.proofs.uri.read_uri.Goals as goal

pub returns-then-is_alpha : goal.returns-then-is_alpha
returns-then-is_alpha g c = search reading_uri

pub returns-else-is_alpha : goal.returns-else-is_alpha
returns-else-is_alpha g c = search reading_uri
