-- `write_text_values::period::put_moment` meets its contract.
use native.Mathlib.Omega.{arith}
use Rattle.write_text_values.specs.laws.Periods.{put_moment}
use Rattle.sink.specs.laws.Sink.{writing}
use Rattle.write_text_values.proofs.period.put_moment.Goals as goal

pub child_inside-i-requires : goal.child_inside-i-requires
child_inside-i-requires c = search writing

pub overflow_mul-i : goal.overflow_mul-i
overflow_mul-i c = omega (arith, c.child_inside-i.ensures.within, c.requires)

pub put_date_time-requires : goal.put_date_time-requires
put_date_time-requires c = search writing

pub shape_of-out : goal.shape_of-out
shape_of-out c = search writing

pub returns : goal.returns
returns c = put_moment c.child_inside-i.ensures c.put_date_time.ensures
