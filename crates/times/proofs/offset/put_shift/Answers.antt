-- `times::offset::put_shift` meets its contract.
use Rattle.sink.specs.laws.Sink.{writing}
use Rattle.times.specs.OffsetWritten.{offset_bytes}
use Rattle.times.proofs.offset.put_shift.Goals as goal

pub returns : goal.returns
unfolding offset_bytes
returns c = rw (← c.sign-g.ensures) (search writing)
