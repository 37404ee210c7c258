-- `times::duration::put_duration` meets its contract.
use Rattle.sink.specs.laws.Sink.{writing}
use Rattle.times.specs.laws.DurationAt.{put_span_read, put_no_span}
use Rattle.times.proofs.duration.put_duration.Goals as goal

pub returns-in-Some : goal.returns-in-Some
returns-in-Some g c = put_span_read c.args.to c.args.from g.E.Encoding.encoding c.args.s.now c.read_duration.ensures c.in-Some.is c.put_span.ensures

pub returns-in-None : goal.returns-in-None
returns-in-None g c = put_no_span c.args.to c.args.from g.E.Encoding.encoding c.args.s.now c.read_duration.ensures c.in-None.is (search writing)
