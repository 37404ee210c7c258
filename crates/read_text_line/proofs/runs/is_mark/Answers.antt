-- `read_text_line::runs::is_mark` meets its contract.
use Rattle.octets.specs.laws.Pick.{branching_joined}
use Rattle.read_text_line.proofs.runs.is_mark.Goals as goal

pub returns-then-u-eq-COLON : goal.returns-then-u-eq-COLON
returns-then-u-eq-COLON c = search branching_joined

pub returns-else-u-eq-COLON : goal.returns-else-u-eq-COLON
returns-else-u-eq-COLON c = search branching_joined
