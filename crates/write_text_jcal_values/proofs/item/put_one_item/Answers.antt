-- `write_text_jcal_values::put_one_item` meets its contract. Assumes nothing.
use Rattle.sink.specs.laws.Sink.{◌▷◌}
use Rattle.sink.specs.laws.Sink.{writing}
use Rattle.write_text_jcal_values.proofs.item.put_one_item.Goals as goal

pub put_between-a-requires : goal.put_between-a-requires
put_between-a-requires c = search writing

pub put_item_of-requires : goal.put_item_of-requires
put_item_of-requires c = search writing

pub shape_of-out : goal.shape_of-out
shape_of-out c = search writing

pub returns : goal.returns
returns c = λ i e. c.put_between-a.ensures ▷ c.put_item_of.ensures i e
