-- `read_text_parameters::name_unit` meets its contract. Assumes nothing.
use Rattle.octets.specs.laws.Pick.{branching}
use Rattle.read_text_parameters.proofs.order.name_unit.Goals as goal

pub returns-then-part : goal.returns-then-part
returns-then-part c = search branching

pub returns : goal.returns
returns c = search branching
