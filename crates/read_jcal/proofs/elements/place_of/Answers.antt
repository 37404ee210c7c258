-- `read_jcal::place_of` meets its contract.
use Rattle.octets.specs.laws.Pick.{branching}
use Rattle.read_jcal.proofs.elements.place_of.Goals as goal

pub returns-then-is_there : goal.returns-then-is_there
returns-then-is_there c = search branching

pub returns-else-is_there : goal.returns-else-is_there
returns-else-is_there c = search branching
