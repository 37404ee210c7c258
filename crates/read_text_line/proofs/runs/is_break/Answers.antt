-- `read_text_line::runs::is_break` meets its contract.
use Rattle.octets.specs.laws.Pick.{branching_joined}
use Rattle.read_text_line.proofs.runs.is_break.Goals as goal

pub returns-then-u-eq-CR : goal.returns-then-u-eq-CR
returns-then-u-eq-CR c = search branching_joined

pub returns-else-u-eq-CR : goal.returns-else-u-eq-CR
returns-else-u-eq-CR c = search branching_joined
