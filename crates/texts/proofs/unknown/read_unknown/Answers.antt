-- `texts::read_unknown` meets its contract.
use Rattle.texts.specs.laws.Kept.{reading_unknown}
use Rattle.texts.proofs.unknown.read_unknown.Goals as goal

pub returns-then-t-eq-END : goal.returns-then-t-eq-END
returns-then-t-eq-END g c = search reading_unknown

pub returns-then-t-eq-LF : goal.returns-then-t-eq-LF
returns-then-t-eq-LF g c = search reading_unknown

pub loop-t-preserved : goal.loop-t-preserved
loop-t-preserved g c = search reading_unknown
