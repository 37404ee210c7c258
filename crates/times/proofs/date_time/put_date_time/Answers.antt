-- `times::date_time::put_date_time` meets its contract.
use Rattle.sink.specs.laws.Sink.{writing}
use Rattle.times.specs.laws.Written.{put_moment_read, put_no_moment}
use Rattle.times.proofs.date_time.put_date_time.Goals as goal

pub returns-in-Some : goal.returns-in-Some
returns-in-Some g c = put_moment_read c.args.to c.read_date_time.ensures c.in-Some.is c.put_moment.ensures

pub returns-in-None : goal.returns-in-None
returns-in-None g c = put_no_moment c.args.to c.read_date_time.ensures c.in-None.is (search writing)
