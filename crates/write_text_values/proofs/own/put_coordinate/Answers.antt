-- `write_text_values::own::put_coordinate` meets its contract.
use native.Mathlib.Omega.{arith}
use Rattle.write_text_values.specs.laws.Own.{put_read, put_zero}
use Rattle.sink.specs.laws.Sink.{writing}
use Rattle.write_text_values.proofs.own.put_coordinate.Goals as goal

pub child_inside-i-requires : goal.child_inside-i-requires
child_inside-i-requires c = search writing

pub overflow_mul-i : goal.overflow_mul-i
overflow_mul-i c = omega (arith, c.child_inside-i.ensures.within, c.requires)

pub read_float-requires : goal.read_float-requires
read_float-requires c = search writing

pub overflow_mul-i-in-Some : goal.overflow_mul-i-in-Some
overflow_mul-i-in-Some c = omega (arith, c.child_inside-i.ensures.within, c.requires)

pub put_float-requires : goal.put_float-requires
put_float-requires c = search writing

pub put_all-requires : goal.put_all-requires
put_all-requires c = search writing

pub returns-in-Some : goal.returns-in-Some
returns-in-Some c = put_read c.child_inside-i.ensures c.read_float.ensures c.in-Some.is c.put_float.ensures

pub returns-in-None : goal.returns-in-None
returns-in-None c = put_zero c.child_inside-i.ensures c.read_float.ensures c.in-None.is c.put_all.ensures
