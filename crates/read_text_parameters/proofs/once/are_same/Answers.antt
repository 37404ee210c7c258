-- `read_text_parameters::are_same` meets its contract.
use Rattle.read_text_parameters.specs.laws.Comparing.{same_apart, same_end, same_more, same_less}
use mathlib.Core.Path.{refl, sym, ◌∙◌}
use Rattle.read_text_parameters.proofs.once.are_same.Goals as goal

pub loop-x-init : goal.loop-x-init
loop-x-init g c = refl

pub returns-then-x-eq-END : goal.returns-then-x-eq-END
returns-then-x-eq-END g c = same_end c.unit-x.ensures c.unit-y.ensures c.upper_unit-xu.ensures c.upper_unit-yu.ensures c.if-xu-yu.true c.if-x-eq-END.true ∙ sym c.loop-x.invariant

pub loop-x-smaller : goal.loop-x-smaller
loop-x-smaller g c = same_less c.unit-x.ensures c.if-x-eq-END.false

pub loop-x-preserved : goal.loop-x-preserved
loop-x-preserved g c = c.loop-x.invariant ∙ same_more c.unit-x.ensures c.unit-y.ensures c.upper_unit-xu.ensures c.upper_unit-yu.ensures c.if-xu-yu.true c.if-x-eq-END.false

pub returns-else-xu-yu : goal.returns-else-xu-yu
returns-else-xu-yu g c = same_apart c.unit-x.ensures c.unit-y.ensures c.upper_unit-xu.ensures c.upper_unit-yu.ensures c.if-xu-yu.false ∙ sym c.loop-x.invariant
