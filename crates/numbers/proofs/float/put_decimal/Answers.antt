-- `numbers::float::put_decimal` meets its contract.
use Rattle.numbers.specs.laws.PutInteger.{putting}
use Rattle.numbers.proofs.float.put_decimal.Goals as goal

pub returns-then-n : goal.returns-then-n
returns-then-n g c = rw c.if-n.true (search putting)

pub returns : goal.returns
returns g c = rw c.if-n.false (search putting)
