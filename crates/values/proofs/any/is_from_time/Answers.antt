-- `values::any::is_from_time` meets its contract.
use Rattle.values.specs.laws.ValueAt.{choosing}
use Rattle.values.proofs.any.is_from_time.Goals as goal

pub returns-then-t-eq-TIME : goal.returns-then-t-eq-TIME
returns-then-t-eq-TIME g c = search choosing

pub returns-then-t-eq-URI : goal.returns-then-t-eq-URI
returns-then-t-eq-URI g c = search choosing

pub returns-then-t-eq-UTC_OFFSET : goal.returns-then-t-eq-UTC_OFFSET
returns-then-t-eq-UTC_OFFSET g c = search choosing

pub returns : goal.returns
returns g c = search choosing
