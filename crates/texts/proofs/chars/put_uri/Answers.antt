-- `texts::put_uri` meets its contract.
use Rattle.texts.specs.laws.Chars.{writing_kept}
use Rattle.texts.proofs.chars.put_uri.Goals as goal

pub returns-then-read_uri : goal.returns-then-read_uri
returns-then-read_uri g c = search writing_kept

pub returns : goal.returns
returns g c = search writing_kept
