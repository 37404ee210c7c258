-- `write_jcal_value::value::put_scalar` meets its contract.
use Rattle.octets.specs.laws.Pick.{flag_yes, flag_no}
use Rattle.sink.specs.laws.Sink.{writing}
use Rattle.write_jcal_value.proofs.value.put_scalar.Goals as goal

pub stands_bare-bare-requires : goal.stands_bare-bare-requires
stands_bare-bare-requires g c = search writing

pub put_characters-requires : goal.put_characters-requires
put_characters-requires g c = search writing

pub shape_of-out-then-bare : goal.shape_of-out-then-bare
shape_of-out-then-bare g c = search writing

pub returns-then-bare : goal.returns-then-bare
returns-then-bare g c = search (flag_yes, writing)

pub put-a-requires : goal.put-a-requires
put-a-requires g c = search writing

pub put_characters-b-requires : goal.put_characters-b-requires
put_characters-b-requires g c = search writing

pub put-requires : goal.put-requires
put-requires g c = search writing

pub shape_of-out : goal.shape_of-out
shape_of-out g c = search writing

pub returns : goal.returns
returns g c = search (flag_no, writing)
