-- `write_text_values::period::put_end` meets its contract.
use native.Mathlib.Omega.{arith}
use Rattle.write_text_values.specs.laws.Children.{found_within}
use Rattle.write_text_values.specs.laws.Periods.{put_span, put_last}
use Rattle.sink.specs.laws.Sink.{writing}
use Rattle.write_text_values.proofs.period.put_end.Goals as goal

pub find_child-requires : goal.find_child-requires
find_child-requires c = search writing

pub overflow_mul-i : goal.overflow_mul-i
overflow_mul-i c = omega (arith, found_within c.find_child.ensures c.in-Some.is, c.requires)

pub put_duration-requires : goal.put_duration-requires
put_duration-requires c = search writing

pub put_moment-requires : goal.put_moment-requires
put_moment-requires c = c.requires

pub returns-in-Some : goal.returns-in-Some
returns-in-Some c = put_span c.find_child.ensures c.in-Some.is c.put_duration.ensures

pub returns-in-None : goal.returns-in-None
returns-in-None c = put_last c.find_child.ensures c.in-None.is c.put_moment.ensures
