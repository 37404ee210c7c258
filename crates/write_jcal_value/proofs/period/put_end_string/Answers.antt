-- `write_jcal_value::period::put_end_string` meets its contract.
use Rattle.sink.specs.laws.Sink.{writing}
use Rattle.write_jcal_value.proofs.period.put_end_string.Goals as goal

pub put_all-p-requires : goal.put_all-p-requires
put_all-p-requires g c = search writing

pub put_period_end-q-requires : goal.put_period_end-q-requires
put_period_end-q-requires g c = search writing

pub put_all-requires : goal.put_all-requires
put_all-requires g c = search writing

pub shape_of-out : goal.shape_of-out
shape_of-out g c = search writing

pub returns : goal.returns
returns g c = search writing
