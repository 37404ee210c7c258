-- `read_text_line::runs::is_qsafe` meets its contract.
use Rattle.octets.specs.laws.Pick.{branching_joined}
use Rattle.read_text_line.proofs.runs.is_qsafe.Goals as goal

pub returns-then-not-is_break : goal.returns-then-not-is_break
returns-then-not-is_break c = search branching_joined

pub returns-else-not-is_break : goal.returns-else-not-is_break
returns-else-not-is_break c = search branching_joined
