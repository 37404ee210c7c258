-- `numbers::float::put_magnitude` meets its contract.
use Rattle.sink.specs.laws.Sink.{writing}
use Rattle.numbers.proofs.float.put_magnitude.Goals as goal

pub returns : goal.returns
returns g c = search writing
