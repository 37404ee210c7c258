-- `edition::letters::put_encoded_byte` meets its contract.
use Rattle.sink.specs.laws.Sink.{writing}
use Rattle.edition.proofs.letters.put_encoded_byte.Goals as goal

pub returns-in-10 : goal.returns-in-10
returns-in-10 c = search writing

pub returns-in-34 : goal.returns-in-34
returns-in-34 c = search writing

pub returns-in-94 : goal.returns-in-94
returns-in-94 c = search writing

pub returns-in_default : goal.returns-in_default
returns-in_default c = search writing
