-- `times::period::put_end` meets its contract.
use Rattle.sink.specs.laws.Sink.{writing}
use Rattle.times.specs.PeriodWritten.{end_bytes}
use Rattle.times.proofs.period.put_end.Goals as goal

pub returns-then-explicit : goal.returns-then-explicit
unfolding end_bytes
returns-then-explicit g c = search writing

pub returns-else-explicit : goal.returns-else-explicit
unfolding end_bytes
returns-else-explicit g c = search writing
