-- `times::duration::put_span` meets its contract.
use Rattle.sink.specs.laws.Sink.{writing}
use Rattle.times.proofs.duration.put_span.Goals as goal

pub returns : goal.returns
returns g c = search writing
