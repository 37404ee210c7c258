-- `times::written::put_marked` meets its contract.
use Rattle.sink.specs.laws.Sink.{writing}
use Rattle.times.specs.Written.{marked}
use Rattle.times.proofs.written.put_marked.Goals as goal

pub returns : goal.returns
unfolding marked
returns c = search writing
