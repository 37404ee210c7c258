-- `times::written::put_day` meets its contract.
use Rattle.sink.specs.laws.Sink.{writing}
use Rattle.times.specs.Written.{day_bytes}
use Rattle.times.proofs.written.put_day.Goals as goal

pub returns : goal.returns
unfolding day_bytes
returns c = search writing
