-- `write_jcal_property::list::put_status` meets its contract.
use Rattle.sink.specs.laws.Sink.{writing}
use Rattle.write_jcal_property.proofs.list.put_status.Goals as goal

pub put-a-requires : goal.put-a-requires
put-a-requires g c = search writing

pub put_texts-b-requires : goal.put_texts-b-requires
put_texts-b-requires g c = search writing

pub put-requires : goal.put-requires
put-requires g c = search writing

pub shape_of-out : goal.shape_of-out
shape_of-out g c = search writing

pub returns : goal.returns
returns g c = search writing
