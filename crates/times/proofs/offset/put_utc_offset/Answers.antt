-- `times::offset::put_utc_offset` meets its contract.
use Rattle.sink.specs.laws.Sink.{writing}
use Rattle.times.specs.laws.OffsetWritten.{put_shift_read, put_no_shift}
use Rattle.times.proofs.offset.put_utc_offset.Goals as goal

pub returns-in-Some : goal.returns-in-Some
returns-in-Some g c = put_shift_read c.args.to c.read_utc_offset.ensures c.in-Some.is c.put_shift.ensures

pub returns-in-None : goal.returns-in-None
returns-in-None g c = put_no_shift c.args.to c.read_utc_offset.ensures c.in-None.is (search writing)
