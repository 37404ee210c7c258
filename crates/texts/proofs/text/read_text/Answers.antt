-- `texts::read_text` meets its contract.
use Rattle.texts.specs.laws.Unescaped.{reading_text}
use Rattle.texts.proofs.text.read_text.Goals as goal

pub loop-t-init : goal.loop-t-init
loop-t-init g c = search reading_text

pub returns-then-t-eq-END : goal.returns-then-t-eq-END
returns-then-t-eq-END g c = search reading_text

pub loop-t-preserved : goal.loop-t-preserved
loop-t-preserved g c = search reading_text

pub returns-then-not-in_text : goal.returns-then-not-in_text
returns-then-not-in_text g c = search reading_text
