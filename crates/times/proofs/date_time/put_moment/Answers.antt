-- `times::date_time::put_moment` meets its contract.
use Rattle.sink.specs.laws.Sink.{writing}
use Rattle.times.specs.Written.{moment_bytes}
use Rattle.times.proofs.date_time.put_moment.Goals as goal

pub returns : goal.returns
unfolding moment_bytes
returns c = search writing
