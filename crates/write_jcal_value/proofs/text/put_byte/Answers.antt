-- `write_jcal_value::text::put_byte` meets its contract.
use Rattle.sink.specs.laws.Sink.{writing}
use Rattle.write_jcal_value.proofs.text.put_byte.Goals as goal

pub put_meant-requires : goal.put_meant-requires
put_meant-requires c = search writing

pub shape_of-out-then-after : goal.shape_of-out-then-after
shape_of-out-then-after c = search writing

pub returns-then-after : goal.returns-then-after
returns-then-after c = search writing

pub put_bare-requires : goal.put_bare-requires
put_bare-requires c = search writing

pub shape_of-out : goal.shape_of-out
shape_of-out c = search writing

pub returns : goal.returns
returns c = search writing
