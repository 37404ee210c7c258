-- `write_text_jcal_values::put_end` meets its contract. Assumes nothing.
use Rattle.write_text_jcal_values.specs.laws.Periods.{end_span, end_moment}
use Rattle.sink.specs.laws.Sink.{writing}
use Rattle.write_text_jcal_values.proofs.period.put_end.Goals as goal

pub read_duration-requires : goal.read_duration-requires
read_duration-requires c = search writing

pub put_duration-requires : goal.put_duration-requires
put_duration-requires c = search writing

pub put_date_time-requires : goal.put_date_time-requires
put_date_time-requires c = search writing

pub returns-in-Some : goal.returns-in-Some
returns-in-Some c = end_span _ _ c.read_duration.ensures c.in-Some.is c.put_duration.ensures

pub returns-in-None : goal.returns-in-None
returns-in-None c = end_moment _ _ c.read_duration.ensures c.in-None.is c.put_date_time.ensures
