-- `write_text_jcal_values::put_start` meets its contract. Assumes nothing.
use Rattle.write_text_jcal_values.specs.laws.Periods.{start_put}
use Rattle.sink.specs.laws.Sink.{writing}
use Rattle.write_text_jcal_values.proofs.period.put_start.Goals as goal

pub string_at-c-requires : goal.string_at-c-requires
string_at-c-requires c = search writing

pub put_date_time-requires : goal.put_date_time-requires
put_date_time-requires c = search writing

pub shape_of-out : goal.shape_of-out
shape_of-out c = search writing

pub returns : goal.returns
returns c = start_put _ _ _ c.string_at-c.ensures c.put_date_time.ensures
