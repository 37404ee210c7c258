-- `recur::value_at` meets its contract.
use Rattle.recur.specs.laws.PieceLaws.{step_less}
use Rattle.recur.specs.laws.Whole.{value_none, value_after}
use Rattle.recur.proofs.rule.value_at.Goals as goal

pub byte_end-e-requires : goal.byte_end-e-requires
byte_end-e-requires g c = c.requires

pub returns-then-n-eq-END : goal.returns-then-n-eq-END
returns-then-n-eq-END g c = (value_none c.byte_end-e.ensures c.unit-n.ensures c.if-n-eq-END.true, c.byte_end-e.ensures.inside)

pub returns : goal.returns
returns g c = (value_after c.byte_end-e.ensures c.unit-n.ensures c.if-n-eq-END.false, (step_less c.byte_end-e.ensures.inside c.unit-n.ensures c.if-n-eq-END.false).1)
