-- `numbers::float::is_zero` meets its contract.
use Rattle.numbers.specs.laws.ReadFloat.{zero_after, zero_digit}
use Rattle.numbers.specs.laws.Spans.{lead_is}
use Rattle.numbers.proofs.float.is_zero.Goals as goal

pub returns-then-not-is_digit : goal.returns-then-not-is_digit
returns-then-not-is_digit g c = zero_after _ _ (lead_is _ _ c.unit_to.ensures.is c.is_digit.ensures c.if-not-is_digit.true) c.only_zeros.ensures

pub returns-else-not-is_digit : goal.returns-else-not-is_digit
returns-else-not-is_digit g c = rw c.if-not-is_digit.false (zero_digit _ _ (lead_is _ _ c.unit_to.ensures.is c.is_digit.ensures c.if-not-is_digit.false))
