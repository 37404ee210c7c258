-- `read_jcal_parameters::written::put_item` meets its contract.
use Rattle.sink.specs.laws.Sink.{writing}
use Rattle.read_jcal_parameters.specs.laws.Written.{item_later, item_first}
use Rattle.read_jcal_parameters.proofs.written.put_item.Goals as goal

pub put-a-requires : goal.put-a-requires
put-a-requires c = search writing

pub put_plain-requires : goal.put_plain-requires
put_plain-requires c = search writing

pub shape_of-out-then-later : goal.shape_of-out-then-later
shape_of-out-then-later c = search writing

pub returns-then-later : goal.returns-then-later
returns-then-later c = search (item_later, writing)

pub put_plain-requires-2 : goal.put_plain-requires-2
put_plain-requires-2 c = search writing

pub shape_of-out : goal.shape_of-out
shape_of-out c = search writing

pub returns : goal.returns
returns c = search (item_first, writing)
