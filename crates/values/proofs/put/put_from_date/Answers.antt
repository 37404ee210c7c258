-- `values::put::put_from_date` meets its contract.
use Rattle.values.specs.laws.PutValue.{placing, put_date, put_date_time, put_duration, put_float}
use Rattle.values.proofs.put.put_from_date.Goals as goal

pub returns-then-t-eq-DATE : goal.returns-then-t-eq-DATE
returns-then-t-eq-DATE g c = search (put_date, placing)

pub returns-then-t-eq-DATE_TIME : goal.returns-then-t-eq-DATE_TIME
returns-then-t-eq-DATE_TIME g c = search (put_date_time, placing)

pub returns-then-t-eq-DURATION : goal.returns-then-t-eq-DURATION
returns-then-t-eq-DURATION g c = search (put_duration, placing)

pub returns-then-t-eq-FLOAT : goal.returns-then-t-eq-FLOAT
returns-then-t-eq-FLOAT g c = search (put_float, placing)

pub returns : goal.returns
returns g c = search placing
