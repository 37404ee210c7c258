-- `numbers::integer::put_integer` meets its contract.
use Rattle.numbers.specs.laws.PutInteger.{putting}
use Rattle.numbers.proofs.integer.put_integer.Goals as goal

pub returns-in_default : goal.returns-in_default
returns-in_default g c = rw (c.read_integer.ensures, c.in_default.is) (search putting)

pub returns : goal.returns
returns g c = rw (c.read_integer.ensures, c.in-Some.is) (search putting)
