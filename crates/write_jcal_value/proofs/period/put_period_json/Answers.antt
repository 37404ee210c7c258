-- `write_jcal_value::period::put_period_json` meets its contract.
use Rattle.sink.specs.laws.Sink.{put_none, writing}
use Rattle.write_jcal_value.specs.laws.PutPeriod.{put_period, put_no_period}
use Rattle.write_jcal_value.proofs.period.put_period_json.Goals as goal

pub read_period-requires : goal.read_period-requires
read_period-requires g c = search writing

pub put_both-requires : goal.put_both-requires
put_both-requires g c = search writing

pub returns-in-Some : goal.returns-in-Some
returns-in-Some g c = search (put_period, writing)

pub returns-in-None : goal.returns-in-None
returns-in-None g c = search (put_no_period, put_none, writing)
