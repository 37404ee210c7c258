-- `read_xml_value::is_filled` meets its contract.
use Rattle.octets.specs.laws.Pick.{branching_joined}
use Rattle.read_xml_value.specs.laws.PartContents.{filled_is}
use Rattle.read_xml_value.proofs.parts.is_filled.Goals as goal

pub returns-then-rule : goal.returns-then-rule
returns-then-rule c = filled_is c.args.rule c.args.first c.args.second (search branching_joined)

pub returns-else-rule : goal.returns-else-rule
returns-else-rule c = filled_is c.args.rule c.args.first c.args.second (search branching_joined)

pub returns-else-first : goal.returns-else-first
returns-else-first c = filled_is c.args.rule c.args.first c.args.second (search branching_joined)
