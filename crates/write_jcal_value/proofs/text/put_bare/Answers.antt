-- `write_jcal_value::text::put_bare` meets its contract.
use Rattle.sink.specs.laws.Sink.{writing}
use Rattle.write_jcal_value.proofs.text.put_bare.Goals as goal

pub returns-then-b-eq92 : goal.returns-then-b-eq92
returns-then-b-eq92 c = search writing

pub put_all-requires : goal.put_all-requires
put_all-requires c = search writing

pub shape_of-out-then-b-eq44 : goal.shape_of-out-then-b-eq44
shape_of-out-then-b-eq44 c = search writing

pub returns-then-b-eq44 : goal.returns-then-b-eq44
returns-then-b-eq44 c = search writing

pub put_all-requires-then-b-eq59 : goal.put_all-requires-then-b-eq59
put_all-requires-then-b-eq59 c = search writing

pub shape_of-out-then-b-eq59 : goal.shape_of-out-then-b-eq59
shape_of-out-then-b-eq59 c = search writing

pub returns-then-b-eq59 : goal.returns-then-b-eq59
returns-then-b-eq59 c = search writing

pub put_escaped_byte-requires : goal.put_escaped_byte-requires
put_escaped_byte-requires c = search writing

pub shape_of-out : goal.shape_of-out
shape_of-out c = search writing

pub returns : goal.returns
returns c = search writing
