-- `tags::put_escaped_byte` meets its contract.
use Rattle.sink.specs.laws.Sink.{writing}
use Rattle.tags.proofs.put_escaped_byte.Goals as goal

pub returns-in-38 : goal.returns-in-38
returns-in-38 c = search writing

pub returns-in-60 : goal.returns-in-60
returns-in-60 c = search writing

pub returns-in-62 : goal.returns-in-62
returns-in-62 c = search writing

pub returns-in_default : goal.returns-in_default
returns-in_default c = search writing
