-- `read_jcal_value::chosen_read` meets its contract.
use Rattle.octets.specs.laws.Pick.{branching}
use Rattle.read_jcal_value.proofs.valued.chosen_read.Goals as goal

pub returns-then-has_words : goal.returns-then-has_words
returns-then-has_words c = search branching

pub returns-else-has_words : goal.returns-else-has_words
returns-else-has_words c = search branching
