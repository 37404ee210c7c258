-- `read_text_parameters::is_typed` meets its contract.
use Rattle.octets.specs.laws.Pick.{branching}
use Rattle.read_text_parameters.proofs.walk.is_typed.Goals as goal

pub returns-then-q-eq-RELATED : goal.returns-then-q-eq-RELATED
returns-then-q-eq-RELATED c = search branching

pub returns : goal.returns
returns c = search branching
