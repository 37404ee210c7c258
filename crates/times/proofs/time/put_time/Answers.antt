-- `times::time::put_time` meets its contract.
use Rattle.sink.specs.laws.Sink.{writing}
use Rattle.times.specs.laws.Written.{put_clock_read, put_no_clock}
use Rattle.times.proofs.time.put_time.Goals as goal

pub returns-in-Some : goal.returns-in-Some
returns-in-Some g c = put_clock_read c.args.to c.read_time.ensures c.in-Some.is c.put_clock.ensures

pub returns-in-None : goal.returns-in-None
returns-in-None g c = put_no_clock c.args.to c.read_time.ensures c.in-None.is (search writing)
