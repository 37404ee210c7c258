-- `texts::put_base64` meets its contract.
use Rattle.sink.specs.laws.Sink.{writing}
use Rattle.texts.specs.laws.Chars.{writing_base64}
use Rattle.texts.proofs.chars.put_base64.Goals as goal

pub returns-then-t-eq-END : goal.returns-then-t-eq-END
returns-then-t-eq-END g c = search writing_base64

pub loop-t-preserved-then-is_passed : goal.loop-t-preserved-then-is_passed
loop-t-preserved-then-is_passed g c = search writing_base64

pub loop-t-preserved : goal.loop-t-preserved
loop-t-preserved g c = (search writing_base64, search writing)
