-- `read_jcal_parameters::order::compare` meets its contract.
use mathlib.Core.Path.{refl, sym, ◌∙◌}
use Rattle.read_jcal_parameters.specs.laws.Order.{order_less, order_more, order_end, order_on, order_nearer}
use Rattle.read_jcal_parameters.proofs.order.compare.Goals as goal

pub loop-x-init : goal.loop-x-init
loop-x-init c = refl

pub returns-then-x-y : goal.returns-then-x-y
returns-then-x-y c = order_less c.name_unit-x.ensures c.name_unit-y.ensures c.if-x-y.true ∙ sym c.loop-x.invariant

pub returns-then-y-x : goal.returns-then-y-x
returns-then-y-x c = order_more c.name_unit-x.ensures c.name_unit-y.ensures c.if-x-y.false c.if-y-x.true ∙ sym c.loop-x.invariant

pub returns-then-x-eq-END : goal.returns-then-x-eq-END
returns-then-x-eq-END c = order_end c.name_unit-x.ensures c.name_unit-y.ensures c.if-x-y.false c.if-y-x.false c.if-x-eq-END.true ∙ sym c.loop-x.invariant

pub loop-x-smaller : goal.loop-x-smaller
loop-x-smaller c = order_nearer c.name_unit-x.ensures c.if-x-eq-END.false

pub loop-x-preserved : goal.loop-x-preserved
loop-x-preserved c = c.loop-x.invariant ∙ order_on c.name_unit-x.ensures c.name_unit-y.ensures c.if-x-y.false c.if-y-x.false c.if-x-eq-END.false
