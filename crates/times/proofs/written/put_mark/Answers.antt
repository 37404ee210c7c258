-- `times::written::put_mark` meets its contract.
use Rattle.sink.specs.laws.Sink.{writing}
use Rattle.times.proofs.written.put_mark.Goals as goal

pub returns-then-on : goal.returns-then-on
returns-then-on c = search writing

pub returns-else-on : goal.returns-else-on
returns-else-on c = search writing
