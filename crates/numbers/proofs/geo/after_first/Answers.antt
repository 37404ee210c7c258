-- `numbers::geo::after_first` meets its contract.
use mathlib.Core.Path.{◌∙◌}
use Rattle.numbers.specs.laws.ReadGeo.{part_none, part_here, part_more, parted_no, parted_yes}
use Rattle.source.specs.laws.Facts.{rest_byte, rest_end}
use Rattle.numbers.proofs.geo.after_first.Goals as goal

pub returns-then-t-eq-END : goal.returns-then-t-eq-END
returns-then-t-eq-END g c = parted_no (c.loop-t.invariant ∙ part_none _ (rest_end c.unit-t.ensures c.if-t-eq-END.true))

pub returns-then-t-c : goal.returns-then-t-c
returns-then-t-c g c = parted_yes (c.loop-t.invariant ∙ part_here _ (rest_byte c.unit-t.ensures c.if-t-eq-END.false) c.if-t-c.true)

pub loop-t-preserved : goal.loop-t-preserved
loop-t-preserved g c = c.loop-t.invariant ∙ part_more _ (rest_byte c.unit-t.ensures c.if-t-eq-END.false) c.if-t-c.false
