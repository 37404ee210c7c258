-- `tags::put_escaped` meets its contract.
use Rattle.source.specs.laws.Copying.{copying}
use Rattle.xml.specs.laws.Escape.{escaped-each}
use Rattle.tags.proofs.put_escaped.Goals as goal

pub returns-then-t-eq-END : goal.returns-then-t-eq-END
returns-then-t-eq-END g c = rw escaped-each (search copying)

pub loop-t-preserved : goal.loop-t-preserved
loop-t-preserved g c = search copying
