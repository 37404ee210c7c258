-- `read_jcal::is_bad_property` meets its contract.
use Rattle.octets.specs.laws.Pick.{branching}
use Rattle.read_jcal.proofs.bad_names.is_bad_property.Goals as goal

pub returns-then-is_word : goal.returns-then-is_word
returns-then-is_word c = search branching

pub returns-else-is_word : goal.returns-else-is_word
returns-else-is_word c = search branching
