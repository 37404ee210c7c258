-- `numbers::float::read_shape` meets its contract.
use mathlib.Core.Path.{refl, ◌∙◌}
use Rattle.numbers.specs.laws.ReadFloat.{shape_none, shape_whole, shape_pointed, shape_other}
use Rattle.numbers.specs.laws.Spans.{lead_is}
use Rattle.numbers.specs.laws.Until.{turn_byte, turn_this, turn_end}
use Rattle.numbers.proofs.float.read_shape.Goals as goal

pub returns-then-not-is_digit : goal.returns-then-not-is_digit
returns-then-not-is_digit g c = shape_none _ _ _ _ (lead_is _ _ c.unit_to.ensures.is c.is_digit.ensures c.if-not-is_digit.true)

pub returns-then-next-eq-END : goal.returns-then-next-eq-END
returns-then-next-eq-END g c = shape_whole _ _ _ _ (lead_is _ _ c.unit_to.ensures.is c.is_digit.ensures c.if-not-is_digit.false) c.digits_end-end.ensures (turn_end c.unit_to-next.ensures c.if-next-eq-END.true)

pub returns-then-next-ne-POINT : goal.returns-then-next-ne-POINT
returns-then-next-ne-POINT g c = shape_other _ _ _ _ (c.digits_end-end.ensures ∙ turn_byte c.unit_to-next.ensures c.if-next-eq-END.false) c.if-next-ne-POINT.true

pub returns : goal.returns
returns g c =
    rw c.then_some.ensures
    (shape_pointed _ _ _ _ _ (lead_is _ _ c.unit_to.ensures.is c.is_digit.ensures c.if-not-is_digit.false)
    (c.digits_end-end.ensures ∙ turn_this c.unit_to-next.ensures 46 c.if-next-ne-POINT.false refl) c.only_digits.ensures)
