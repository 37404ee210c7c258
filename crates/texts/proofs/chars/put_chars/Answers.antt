-- `texts::put_chars` meets its contract.
use Rattle.source.specs.laws.Copying.{copying}
use Rattle.texts.specs.laws.Chars.{put_as_is}
use Rattle.texts.proofs.chars.put_chars.Goals as goal

pub returns-then-t-eq-END : goal.returns-then-t-eq-END
returns-then-t-eq-END g c = put_as_is (search copying)

pub loop-t-preserved : goal.loop-t-preserved
loop-t-preserved g c = search copying
