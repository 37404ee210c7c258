-- `values::put::put_from_integer` meets its contract.
use Rattle.sink.specs.laws.Sink.{put_none}
use Rattle.values.specs.laws.PutValue.{placing, put_integer, put_period, put_rule, put_text}
use Rattle.values.proofs.put.put_from_integer.Goals as goal

pub returns-then-t-eq-INTEGER : goal.returns-then-t-eq-INTEGER
returns-then-t-eq-INTEGER g c = search (put_integer, placing)

pub returns-then-t-eq-PERIOD : goal.returns-then-t-eq-PERIOD
returns-then-t-eq-PERIOD g c = search (put_period, put_none, placing)

pub returns-then-t-eq-RECUR : goal.returns-then-t-eq-RECUR
returns-then-t-eq-RECUR g c = search (put_rule, put_none, placing)

pub returns-then-t-eq-TEXT : goal.returns-then-t-eq-TEXT
returns-then-t-eq-TEXT g c = search (put_text, placing)

pub returns : goal.returns
returns g c = search placing
