-- `numbers::float::put_float_to` meets its contract.
use Rattle.sink.specs.laws.Sink.{writing}
use Rattle.numbers.proofs.float.put_float_to.Goals as goal

pub returns-in_default : goal.returns-in_default
returns-in_default g c = rw (c.float_to.ensures, c.in_default.is) (search writing)

pub returns : goal.returns
returns g c = rw (c.float_to.ensures, c.in-Some.is) (search writing)
