-- `texts::put_text_escaped` meets its contract.
use Rattle.source.specs.laws.Copying.{copying}
use Rattle.texts.specs.laws.Written.{text_each_of}
use Rattle.texts.proofs.written.put_text_escaped.Goals as goal

pub returns-then-t-eq-END : goal.returns-then-t-eq-END
returns-then-t-eq-END g c = rw text_each_of (search copying)

pub loop-t-preserved : goal.loop-t-preserved
loop-t-preserved g c = search copying
