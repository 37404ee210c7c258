-- `values::any::is_from_date` meets its contract.
use Rattle.values.specs.laws.ValueAt.{choosing}
use Rattle.values.proofs.any.is_from_date.Goals as goal

pub returns-then-t-eq-DATE : goal.returns-then-t-eq-DATE
returns-then-t-eq-DATE g c = search choosing

pub returns-then-t-eq-DATE_TIME : goal.returns-then-t-eq-DATE_TIME
returns-then-t-eq-DATE_TIME g c = search choosing

pub returns-then-t-eq-DURATION : goal.returns-then-t-eq-DURATION
returns-then-t-eq-DURATION g c = search choosing

pub returns-then-t-eq-FLOAT : goal.returns-then-t-eq-FLOAT
returns-then-t-eq-FLOAT g c = search choosing

pub returns : goal.returns
returns g c = search choosing
