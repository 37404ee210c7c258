-- `texts::item_end` meets its contract.
use Rattle.texts.specs.laws.Items.{walking}
use Rattle.texts.proofs.items.item_end.Goals as goal
use Rattle.texts.proofs.items.item_end.Goals.{then-t-eq-END-via-then-t-eq-END, then-t-eq-END-via-else-t-eq-END+then-is_between}

pub loop-t-init : goal.loop-t-init
loop-t-init g c = search walking

pub returns-then-t-eq-END : goal.returns-then-t-eq-END
returns-then-t-eq-END g c =
    elim c.then-t-eq-END.branch [
      | then-t-eq-END-via-then-t-eq-END w ↦ search walking
      | then-t-eq-END-via-else-t-eq-END+then-is_between w ↦ search walking
    ]

pub loop-t-preserved : goal.loop-t-preserved
loop-t-preserved g c = search walking
