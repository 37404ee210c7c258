-- `values::put::put_from_time` meets its contract.
use Rattle.values.specs.laws.PutValue.{placing, put_offset, put_time, put_unknown, put_uri}
use Rattle.values.proofs.put.put_from_time.Goals as goal

pub returns-then-t-eq-TIME : goal.returns-then-t-eq-TIME
returns-then-t-eq-TIME g c = search (put_time, placing)

pub returns-then-t-eq-URI : goal.returns-then-t-eq-URI
returns-then-t-eq-URI g c = search (put_uri, placing)

pub returns-then-t-eq-UTC_OFFSET : goal.returns-then-t-eq-UTC_OFFSET
returns-then-t-eq-UTC_OFFSET g c = search (put_offset, placing)

pub returns : goal.returns
returns g c = search (put_unknown, placing)
