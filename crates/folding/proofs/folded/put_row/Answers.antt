-- `folding::put_row` meets its contract.
use Rattle.sink.specs.laws.Sink.{writing}
use Rattle.folding.proofs.folded.put_row.Goals as goal

pub put_lead-o-requires : goal.put_lead-o-requires
put_lead-o-requires c = search writing

pub put_all-p-requires : goal.put_all-p-requires
put_all-p-requires c = search writing

pub put_all-requires : goal.put_all-requires
put_all-requires c = search writing

pub shape_of-out : goal.shape_of-out
shape_of-out c = search writing

pub returns : goal.returns
returns c = search writing
