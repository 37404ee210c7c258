-- `texts::put_binary` meets its contract.
use Rattle.texts.specs.laws.Chars.{writing_kept}
use Rattle.texts.proofs.chars.put_binary.Goals as goal

pub returns-then-read_binary : goal.returns-then-read_binary
returns-then-read_binary g c = search writing_kept

pub returns : goal.returns
returns g c = search writing_kept
