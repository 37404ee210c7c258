-- `write_text_values::typed::put_one_value` meets its contract.
use Rattle.sink.specs.laws.Sink.{◌▷◌, writing}
use Rattle.write_text_values.proofs.typed.put_one_value.Goals as goal

pub put_between-a-requires : goal.put_between-a-requires
put_between-a-requires c = search writing

pub put_value-requires : goal.put_value-requires
put_value-requires c = c.requires

pub shape_of-out : goal.shape_of-out
shape_of-out c = search writing

pub returns : goal.returns
returns c = c.put_between-a.ensures ▷ c.put_value.ensures
