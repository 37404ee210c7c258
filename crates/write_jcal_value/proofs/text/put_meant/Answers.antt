-- `write_jcal_value::text::put_meant` meets its contract.
use Rattle.sink.specs.laws.Sink.{writing}
use Rattle.write_jcal_value.proofs.text.put_meant.Goals as goal

pub put_all-requires : goal.put_all-requires
put_all-requires c = search writing

pub shape_of-out-then-b-eq110 : goal.shape_of-out-then-b-eq110
shape_of-out-then-b-eq110 c = search writing

pub returns-then-b-eq110 : goal.returns-then-b-eq110
returns-then-b-eq110 c = search writing

pub put_all-requires-then-b-eq78 : goal.put_all-requires-then-b-eq78
put_all-requires-then-b-eq78 c = search writing

pub shape_of-out-then-b-eq78 : goal.shape_of-out-then-b-eq78
shape_of-out-then-b-eq78 c = search writing

pub returns-then-b-eq78 : goal.returns-then-b-eq78
returns-then-b-eq78 c = search writing

pub put_escaped_byte-requires : goal.put_escaped_byte-requires
put_escaped_byte-requires c = search writing

pub shape_of-out : goal.shape_of-out
shape_of-out c = search writing

pub returns : goal.returns
returns c = search writing
