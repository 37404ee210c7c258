-- `numbers::float::put_waiting` meets its contract.
use Rattle.sink.specs.laws.Sink.{writing}
use Rattle.numbers.proofs.float.put_waiting.Goals as goal

pub returns : goal.returns
returns c = search writing
