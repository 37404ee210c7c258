-- `read_text_parameters::ended` meets its contract.
use Rattle.octets.specs.laws.Pick.{branching}
use Rattle.read_text_parameters.proofs.walk.ended.Goals as goal

pub returns-then-encoded : goal.returns-then-encoded
returns-then-encoded c = search branching

pub returns-then-t-eq-BINARY : goal.returns-then-t-eq-BINARY
returns-then-t-eq-BINARY c = search branching

pub returns : goal.returns
returns c = search branching
