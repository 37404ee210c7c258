-- `times::period::put_period_end` meets its contract.
use Rattle.sink.specs.laws.Sink.{writing}
use Rattle.source.specs.Source.{rest}
use Rattle.times.specs.laws.PeriodWritten.{put_end_read, put_no_end}
use Rattle.times.proofs.period.put_period_end.Goals as goal

pub returns-in-Some : goal.returns-in-Some
returns-in-Some g c = put_end_read (rest g.E.Encoding.encoding c.args.s.now c.args.at) c.read_period.ensures c.in-Some.is c.put_end.ensures

pub returns-in-None : goal.returns-in-None
returns-in-None g c = put_no_end (rest g.E.Encoding.encoding c.args.s.now c.args.at) c.read_period.ensures c.in-None.is (search writing)
