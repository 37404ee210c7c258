-- `times::written::put_clock` meets its contract.
use Rattle.sink.specs.laws.Sink.{writing}
use Rattle.times.specs.Written.{clock_bytes}
use Rattle.times.proofs.written.put_clock.Goals as goal

pub returns : goal.returns
unfolding clock_bytes
returns c = search writing
