-- `times::duration::put_letters` meets its contract.
use Rattle.times.specs.laws.DurationAt.{copying}
use Rattle.times.proofs.duration.put_letters.Goals as goal

pub loop-a-init : goal.loop-a-init
loop-a-init g c = search copying

pub returns-then-a-eq-END : goal.returns-then-a-eq-END
returns-then-a-eq-END g c = search copying

pub loop-a-preserved : goal.loop-a-preserved
loop-a-preserved g c = search copying
