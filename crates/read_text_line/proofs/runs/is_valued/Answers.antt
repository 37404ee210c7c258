-- `read_text_line::runs::is_valued` meets its contract.
use Rattle.octets.specs.laws.Pick.{branching_joined}
use Rattle.read_text_line.proofs.runs.is_valued.Goals as goal

pub returns-then-u-ne-END : goal.returns-then-u-ne-END
returns-then-u-ne-END c = search branching_joined

pub returns-else-u-ne-END : goal.returns-else-u-ne-END
returns-else-u-ne-END c = search branching_joined
