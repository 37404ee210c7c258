-- `read_jcal_value::is_place` meets its contract.
use Rattle.octets.specs.laws.Pick.{branching}
use Rattle.read_jcal_value.proofs.own.is_place.Goals as goal

pub returns-then-is_word_of : goal.returns-then-is_word_of
returns-then-is_word_of c = search branching

pub returns-else-is_word_of : goal.returns-else-is_word_of
returns-else-is_word_of c = search branching
