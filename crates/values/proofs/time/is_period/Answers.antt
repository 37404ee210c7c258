-- `values::time::is_period` meets its contract.
use Rattle.values.specs.laws.ValueAt.{period_xml, period_is}
use Rattle.values.proofs.time.is_period.Goals as goal

pub returns-then-xcal : goal.returns-then-xcal
returns-then-xcal g c = period_xml _ c.if-xcal.true

pub returns : goal.returns
returns g c = period_is _ _ _ c.read_period.result c.if-xcal.false c.read_period.ensures c.is_some.ensures
