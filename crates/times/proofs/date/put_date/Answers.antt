-- `times::date::put_date` meets its contract.
use Rattle.sink.specs.laws.Sink.{writing}
use Rattle.times.specs.laws.Written.{put_day_read, put_no_day}
use Rattle.times.proofs.date.put_date.Goals as goal

pub returns-in-Some : goal.returns-in-Some
returns-in-Some g c = put_day_read c.args.to c.read_date.ensures c.in-Some.is c.put_day.ensures

pub returns-in-None : goal.returns-in-None
returns-in-None g c = put_no_day c.args.to c.read_date.ensures c.in-None.is (search writing)
