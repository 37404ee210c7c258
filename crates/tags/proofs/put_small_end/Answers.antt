-- `tags::put_small_end` meets its contract.
use Rattle.sink.specs.laws.Sink.{writing}
use Rattle.tags.proofs.put_small_end.Goals as goal

pub returns : goal.returns
returns g c = search writing
