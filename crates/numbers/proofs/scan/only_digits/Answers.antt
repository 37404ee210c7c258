-- `numbers::scan::only_digits` meets its contract.
use Rattle.std.proofs.Common.{◌∙◌}
use Rattle.numbers.specs.laws.Spans.{all_none, all_after}
use Rattle.numbers.specs.laws.Until.{turn_byte, turn_end}
use Rattle.numbers.proofs.scan.only_digits.Goals as goal

pub returns-then-unit_to-eq-END : goal.returns-then-unit_to-eq-END
returns-then-unit_to-eq-END g c = all_none (turn_end c.unit_to.ensures c.if-unit_to-eq-END.true)

pub returns : goal.returns
returns g c = all_after (turn_byte c.unit_to.ensures c.if-unit_to-eq-END.false) _ _ (c.digits_end-end.ensures ∙ c.unit_to-2.ensures.is)
