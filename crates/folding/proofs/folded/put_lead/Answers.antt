-- `folding::put_lead` meets its contract.
use Rattle.sink.specs.laws.Sink.{writing}
use Rattle.folding.proofs.folded.put_lead.Goals as goal

pub put-requires : goal.put-requires
put-requires c = search writing

pub shape_of-out-then-more : goal.shape_of-out-then-more
shape_of-out-then-more c = search writing

pub returns-then-more : goal.returns-then-more
returns-then-more c = search writing

pub returns : goal.returns
returns c = search writing
