-- `write_jcal::components::put_tail` meets its contract.
use Rattle.sink.specs.laws.Sink.{writing}
use Rattle.write_jcal.proofs.components.put_tail.Goals as goal

pub put_all-requires : goal.put_all-requires
put_all-requires c = search writing

pub shape_of-out : goal.shape_of-out
shape_of-out c = search writing

pub returns : goal.returns
returns c = search writing
