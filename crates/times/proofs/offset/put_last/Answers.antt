-- `times::offset::put_last` meets its contract.
use Rattle.sink.specs.laws.Sink.{writing}
use Rattle.times.specs.OffsetWritten.{last_bytes}
use Rattle.times.proofs.offset.put_last.Goals as goal

pub returns-in-Some : goal.returns-in-Some
unfolding last_bytes
returns-in-Some c = rw c.in-Some.is c.put_marked.ensures

pub returns-in-None : goal.returns-in-None
unfolding last_bytes
returns-in-None c = rw c.in-None.is (search writing)
