-- `names::packed::pack` meets its contract.
use Rattle.names.specs.laws.Packing.{taking_more, taking_end}
use Rattle.names.proofs.packed.pack.Goals as goal

pub returns-then-n-eq-END : goal.returns-then-n-eq-END
returns-then-n-eq-END g c = taking_end c.loop-n.invariant c.unit-n.ensures c.if-n-eq-END.true

pub loop-n-preserved : goal.loop-n-preserved
loop-n-preserved g c = taking_more c.loop-n.invariant c.unit-n.ensures c.if-n-eq-END.false c.upper_unit.ensures c.grown-t.ensures
