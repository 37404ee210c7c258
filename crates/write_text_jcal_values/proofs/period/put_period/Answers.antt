-- `write_text_jcal_values::put_period` meets its contract. Assumes nothing.
use Rattle.write_text_jcal_values.specs.laws.Periods.{period_put}
use Rattle.sink.specs.laws.Sink.{writing}
use Rattle.write_text_jcal_values.proofs.period.put_period.Goals as goal

pub put_start-a-requires : goal.put_start-a-requires
put_start-a-requires c = search writing

pub put_all-b-requires : goal.put_all-b-requires
put_all-b-requires c = search writing

pub put_finish-requires : goal.put_finish-requires
put_finish-requires c = search writing

pub shape_of-out : goal.shape_of-out
shape_of-out c = search writing

pub returns : goal.returns
returns c = period_put _ _ c.put_start-a.ensures c.put_all-b.ensures c.put_finish.ensures
