-- `numbers::integer::number` meets its contract.
use mathlib.Core.Path.{◌∙◌}
use Rattle.numbers.specs.laws.ReadInteger.{number_none, number_some}
use Rattle.source.specs.laws.Facts.{rest_byte, rest_end}
use Rattle.numbers.proofs.integer.number.Goals as goal

pub returns-then-unit-eq-END : goal.returns-then-unit-eq-END
returns-then-unit-eq-END g c = number_none _ (rest_end c.unit.ensures c.if-unit-eq-END.true)

pub returns : goal.returns
returns g c = number_some _ (rest_byte c.unit.ensures c.if-unit-eq-END.false) ∙ c.worth.ensures
