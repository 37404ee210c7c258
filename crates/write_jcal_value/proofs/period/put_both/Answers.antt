-- `write_jcal_value::period::put_both` meets its contract.
use Rattle.sink.specs.laws.Sink.{writing}
use Rattle.write_jcal_value.proofs.period.put_both.Goals as goal

pub put_start_string-a-requires : goal.put_start_string-a-requires
put_start_string-a-requires g c = search writing

pub put_end_string-requires : goal.put_end_string-requires
put_end_string-requires g c = search writing

pub shape_of-out : goal.shape_of-out
shape_of-out g c = search writing

pub returns : goal.returns
returns g c = search writing
