-- `read_text_line::carried::names_carried` meets its contract.
use Rattle.std.proofs.Common.{◌∙◌}
use Rattle.read_text_line.specs.laws.Carried.{carried_both, carried_not}
use Rattle.read_text_line.proofs.carried.names_carried.Goals as goal

pub returns-then-is_carried_name : goal.returns-then-is_carried_name
returns-then-is_carried_name g c = carried_both _ _ c.is_carried_name.ensures c.if-is_carried_name.true c.params_carried.ensures

pub returns-else-is_carried_name : goal.returns-else-is_carried_name
returns-else-is_carried_name g c = c.if-is_carried_name.false ∙ carried_not _ _ c.is_carried_name.ensures c.if-is_carried_name.false
