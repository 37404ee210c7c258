-- `texts::put_unescaped` meets its contract.
use Rattle.texts.specs.laws.Written.{writing_xml}
use Rattle.texts.proofs.written.put_unescaped.Goals as goal

pub returns-then-t-eq-END : goal.returns-then-t-eq-END
returns-then-t-eq-END g c = search writing_xml

pub loop-t-preserved-then-is_opening : goal.loop-t-preserved-then-is_opening
loop-t-preserved-then-is_opening g c = search writing_xml

pub loop-t-preserved : goal.loop-t-preserved
loop-t-preserved g c = search writing_xml
