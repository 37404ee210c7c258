-- `read_text_line::carried::is_carried_name` meets its contract.
use Rattle.std.proofs.Common.{ap, ◌∙◌}
use Rattle.std.proofs.Math.Bool.{not}
use Rattle.read_text_line.specs.laws.Carried.{carried_off, carried_test}
use Rattle.read_text_line.proofs.carried.is_carried_name.Goals as goal

pub returns-then-not-starts_off_name : goal.returns-then-not-starts_off_name
returns-then-not-starts_off_name g c = carried_test _ c.starts_off_name.ensures c.starts_xml.ensures c.if-not-starts_off_name.true

pub returns-else-not-starts_off_name : goal.returns-else-not-starts_off_name
returns-else-not-starts_off_name g c = ap not c.if-not-starts_off_name.false ∙ carried_off _ c.starts_off_name.ensures c.if-not-starts_off_name.false
