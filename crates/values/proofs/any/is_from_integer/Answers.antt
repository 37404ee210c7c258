-- `values::any::is_from_integer` meets its contract.
use Rattle.values.specs.laws.ValueAt.{choosing}
use Rattle.values.proofs.any.is_from_integer.Goals as goal

pub returns-then-t-eq-INTEGER : goal.returns-then-t-eq-INTEGER
returns-then-t-eq-INTEGER g c = search choosing

pub returns-then-t-eq-PERIOD : goal.returns-then-t-eq-PERIOD
returns-then-t-eq-PERIOD g c = search choosing

pub returns-then-t-eq-RECUR : goal.returns-then-t-eq-RECUR
returns-then-t-eq-RECUR g c = search choosing

pub returns-then-t-eq-TEXT : goal.returns-then-t-eq-TEXT
returns-then-t-eq-TEXT g c = search choosing

pub returns : goal.returns
returns g c = search choosing
