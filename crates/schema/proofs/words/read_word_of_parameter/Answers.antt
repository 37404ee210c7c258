-- `schema::words::read_word_of_parameter` meets its contract.
use Rattle.schema.specs.laws.Sets.{parameter_set_lem}
use Rattle.schema.proofs.words.read_word_of_parameter.Goals as goal

pub returns : goal.returns
returns g c = rw (← (parameter_set_lem c.args.q), ← c.parameter_set.ensures) c.read_in_set.ensures
