-- `texts::put_unknown` meets its contract.
use Rattle.texts.specs.laws.Chars.{writing_kept}
use Rattle.texts.proofs.chars.put_unknown.Goals as goal

pub returns-then-read_unknown : goal.returns-then-read_unknown
returns-then-read_unknown g c = search writing_kept

pub returns : goal.returns
returns g c = search writing_kept
