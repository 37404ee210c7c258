-- `numbers::float::put_before` meets its contract.
use Rattle.std.proofs.Common.{sym}
use Rattle.numbers.specs.laws.PutFloat.{put_same}
use Rattle.numbers.specs.laws.Spans.{lead_is, lead_some, lead_none}
use Rattle.numbers.proofs.float.put_before.Goals as goal

pub returns-then-is_digit : goal.returns-then-is_digit
returns-then-is_digit g c = put_same c.put_front.ensures (sym (lead_some _ (lead_is _ _ c.unit_to.ensures.is c.is_digit.ensures c.if-is_digit.true)))

pub returns : goal.returns
returns g c = put_same c.put.ensures (sym (lead_none _ (lead_is _ _ c.unit_to.ensures.is c.is_digit.ensures c.if-is_digit.false)))
