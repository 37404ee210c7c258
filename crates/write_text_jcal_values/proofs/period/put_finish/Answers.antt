-- `write_text_jcal_values::put_finish` meets its contract. Assumes nothing.
use Rattle.write_text_jcal_values.specs.laws.Periods.{finish_put}
use Rattle.sink.specs.laws.Sink.{writing}
use Rattle.write_text_jcal_values.proofs.period.put_finish.Goals as goal

pub skip-second-requires : goal.skip-second-requires
skip-second-requires c = search writing

pub string_at-c-requires : goal.string_at-c-requires
string_at-c-requires c = search writing

pub put_end-requires : goal.put_end-requires
put_end-requires c = search writing

pub shape_of-out : goal.shape_of-out
shape_of-out c = search writing

pub returns : goal.returns
returns c = finish_put _ _ _ _ c.skip-second.ensures c.string_at-c.ensures c.put_end.ensures
