-- `tags::put_end_tag` meets its contract.
use Rattle.sink.specs.laws.Sink.{writing}
use Rattle.tags.proofs.put_end_tag.Goals as goal

pub returns : goal.returns
returns c = search writing
